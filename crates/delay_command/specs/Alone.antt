-- one dossier behind a front, and nothing after it
use Rattle.std.specs.Prelude.{◌≡◌, ◌≢◌, ◌++◌, ℕ, zero, suc, List, [], ◌∷◌, Option, None, Some, length}
use Rattle.crew_io.specs.Lines.{IsPartial}
use Rattle.crew_io.specs.declared.lines.Progress.{Progress}
use Rattle.crew_io.specs.declared.lines.Progress.TheVariants as progress
use Rattle.dossier_terms.specs.declared.Reason.{Reason}
use Rattle.dossier_terms.specs.declared.Reason.TheVariants.{Shape}
use Rattle.dossier_terms.specs.Dossier.{Dossier}
use Rattle.dossier_terms.specs.Reading.{Reading, Form}
use Rattle.cert_checker.specs.Checked.{Checked, IsTrueYes, IsWholeAt}
use Rattle.dossier_commands.specs.Input.{Front, HasRead, IsAcceptedBehind, IsRefusal, lines_before, room_after}
use Rattle.late_lines.specs.declared.halt.Halt.{Halt}
use Rattle.late_lines.specs.declared.halt.Halt.TheVariants.{No, ReadFault, OutOfMemory}

-- the first line that is refused behind the front: one of the dossier, or the one after it, of which any byte is too much
pub data IsRefusedBehind (front : Front) (input : List ℕ) (number : ℕ) (reason : Reason) : Type 0 where
  InDossier : (refusal : IsRefusal front input [] number reason) → IsRefusedBehind front input number reason
  AfterDossier : (d : Dossier) (more : List ℕ) (read : HasRead front input (d ∷ []) [] more Form) (some : more ≢ [])
      (is : number ≡ suc (lines_before front (d ∷ []) [])) (why : reason ≡ Shape) → IsRefusedBehind front input number reason

-- what was read behind the front where a read failed, of which no line is refused, with a front of one more; the rest is unseen
pub data IsUnrefusedBehind (front : Front) (input part rest : List ℕ) : Type 0 where
  AmidDossier : (lines : List (List ℕ)) (due : Reading) (read : HasRead front input [] lines (part ++ rest) due)
      (begun : IsPartial (room_after front [] lines) part (length part)) → IsUnrefusedBehind front input part rest
  PastDossier : (d : Dossier) (read : HasRead front input (d ∷ []) [] (part ++ rest) Form)
      (begun : IsPartial (room_after front (d ∷ []) []) part (length part)) → IsUnrefusedBehind front input part rest

pub record IsInterruptedBehind (front : Front) (input : List ℕ) (left : Option (List ℕ)) : Type 0 where
  pub part : List ℕ
  pub unseen : List ℕ
  pub rest : left ≡ Some unseen
  pub read : IsUnrefusedBehind front input part unseen

-- why the reading behind a front goes no further
abbrev pub HaltsBehind : Front → List ℕ → Option (List ℕ) → Halt → Type 0
HaltsBehind front input left (No number reason) = IsRefusedBehind front input number reason
HaltsBehind front input left ReadFault = IsInterruptedBehind front input left
HaltsBehind front input left OutOfMemory = Unit {0}

-- the checker has a dossier that is whole, and what it says
pub record IsWholeAndTrue (checker : Checked) : Type 0 where
  pub dossier : Dossier
  pub whole : IsWholeAt checker.at dossier
  pub true_yes : IsTrueYes dossier

-- the input is the front and the text of a dossier that the checker has
pub record IsAlone (front : Front) (input : List ℕ) (checker : Checked) : Type 0 where
  pub dossier : Dossier
  pub whole : IsWholeAt checker.at dossier
  pub true_yes : IsTrueYes dossier
  pub accepted : IsAcceptedBehind front input (dossier ∷ [])

-- why more than the dossier is read
abbrev pub halt_behind : ℕ → Progress → Option Halt
halt_behind line progress.Line = Some (No line Shape)
halt_behind line progress.TooLong = Some (No line Shape)
halt_behind line progress.TooMuch = Some (No line Shape)
halt_behind line (progress.End zero) = None
halt_behind line (progress.End (suc partial)) = Some (No line Shape)
halt_behind line progress.ReadFault = Some ReadFault
