-- the stages in which a bundle is read
use Rattle.std.specs.Prelude.{◌≡◌, ◌≤◌, ◌<◌, ◌+◌, ◌++◌, ℕ, List, Option, None, Some, length}
use Rattle.crew_terms.specs.declared.TheConstants.{LONGEST_INPUT}
use Rattle.crew_io.specs.Lines.{Reader, rest_of}
use Rattle.crew_io.specs.declared.lines.Progress.{Progress}
use Rattle.crew_io.specs.declared.lines.Progress.TheVariants as progress
use Rattle.cert_checker.specs.Checked.{IsEnded, IsWholeAt, verdict_of}
use Rattle.dossier_terms.specs.declared.Reason.TheVariants as reasons
use Rattle.dossier_terms.specs.Dossier.{Dossier, IsGood}
use Rattle.dossier_terms.specs.Lines.{lines_of, text_of}
use Rattle.dossier_commands.specs.Input.{IsGoing}
use Rattle.part_texts.specs.Accepted.{AreBundles}
use Rattle.part_texts.specs.Bundle.{Bundle, HaveTasks, sum_of_bounds}
use Rattle.parts_reader.specs.Input.{Begun, InDay, InParts, IsInterrupted, IsNextBundle, IsPlace, IsRefusal, lines_up_to, text_up_to}
use Rattle.parts_reader.specs.declared.reason.BundleReason.TheVariants.{Line}
use Rattle.parts_reader.specs.declared.halt.Halt.{Halt}
use Rattle.parts_reader.specs.declared.halt.Halt.TheVariants.{No, ReadFault, OutOfMemory}
use Rattle.parts_reader.specs.declared.line.Begins.{Begins}
use Rattle.parts_reader.specs.declared.line.Begins.TheVariants as begins
use Rattle.parts_reader.specs.declared.dossier.WholeDossier.{WholeDossier}
use Rattle.parts_reader.specs.declared.parts.Tally.{Tally}
use Rattle.parts_reader.specs.declared.bundle.WholeBundle.{WholeBundle}

-- why the line of this number does not come whole
abbrev pub halt_of : ℕ → Progress → Option Halt
halt_of line progress.Line = None
halt_of line progress.TooLong = Some (No line (Line reasons.TooLong))
halt_of line progress.TooMuch = Some (No line (Line reasons.TooMuch))
halt_of line (progress.End partial) = Some (No line (Line reasons.End))
halt_of line progress.ReadFault = Some ReadFault

-- why the reading of a bundle behind these goes no further
abbrev pub HaltsAt : List ℕ → List Bundle → Option (List ℕ) → Halt → Type 0
HaltsAt input done left (No number reason) = IsRefusal input done number reason
HaltsAt input done left ReadFault = IsInterrupted input done left
HaltsAt input done left OutOfMemory = Unit {0}

-- what comes behind whole bundles: the first line of the next one, or nothing
abbrev pub HasCome : List ℕ → List Bundle → Reader → Option (List ℕ) → ℕ → Begins → Type 0
HasCome input done reader left lines begins.Bundle = IsPlace input done InDay reader left (lines + 1)
HasCome input done reader left lines begins.End = AreBundles input done

-- the reader has handed out more, to the end of a dossier, which the checker has
pub record IsPastDossier (old new : Reader) (whole : WholeDossier) : Type 0 where
  pub going : IsGoing new whole.checker.lines
  pub more : old.handed < new.handed
  pub ended : IsEnded whole.checker.at

-- it has handed out the text of a good dossier behind these bundles and this of the next one, and the checker has that dossier
pub record IsDossierRead (input : List ℕ) (done : List Bundle) (begun : Begun) (reader : Reader) (left : Option (List ℕ)) (whole : WholeDossier) : Type 0 where
  pub dossier : Dossier
  pub good : IsGood dossier
  pub has : IsWholeAt whole.checker.at dossier
  pub says : whole.verdict ≡ verdict_of dossier
  pub rest : List ℕ
  pub is : rest_of reader left ≡ Some rest
  pub text : input ≡ text_up_to done begun ++ (text_of dossier ++ rest)
  pub within : length (text_up_to done begun) + length (text_of dossier) ≤ LONGEST_INPUT
  pub handed : reader.handed ≡ length (text_up_to done begun) + length (text_of dossier)
  pub number : whole.checker.lines ≡ lines_up_to done begun + length (lines_of dossier)

-- the reader has handed out dossiers of parts, which have the tasks that are taken and these bounds
pub record IsTallied (input : List ℕ) (done : List Bundle) (day : Dossier) (k : ℕ) (parts : List Dossier) (reader : Reader) (left : Option (List ℕ)) (tally : Tally) : Type 0 where
  pub place : IsPlace input done (InParts day k parts) reader left tally.lines
  pub taken : HaveTasks day.instance parts tally.taken
  pub bounds : tally.bounds ≡ sum_of_bounds parts

-- what was found behind these bundles: one more, or nothing
abbrev pub IsFound : List ℕ → List Bundle → Reader → Option (List ℕ) → Option WholeBundle → Type 0
IsFound input done reader left (Some whole) = IsNextBundle input done whole.verdict reader left whole.lines
IsFound input done reader left None = AreBundles input done

-- after a bundle the reader can go on, and more was handed out
abbrev pub IsFoundNext : Reader → Reader → Option WholeBundle → Type 0
IsFoundNext old new (Some whole) = IsGoing new whole.lines × (old.handed < new.handed)
IsFoundNext old new None = Unit {0}
