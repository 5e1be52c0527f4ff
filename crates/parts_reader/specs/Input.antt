-- an input of bundles as a reading finds it: bundles that are whole, what is read of the next one, and the first line that is refused
use Rattle.std.specs.Prelude.{◌≡◌, ◌≢◌, ◌≤◌, ◌<◌, ◌+◌, ◌-◌, ◌++◌, ℕ, suc, List, [], ◌∷◌, Option, Some, length, All, flat_map}
use Rattle.std.specs.List.{sum_by}
use Rattle.crew_terms.specs.Plan.{unassigned_count}
use Rattle.crew_terms.specs.Words.{Words, IsLine, line_text, words_of, with_feed}
use Rattle.crew_terms.specs.declared.TheConstants.{LONGEST_INPUT, MOST_TASKS}
use Rattle.crew_io.specs.Lines.{Reader, IsPartial, rest_of}
use Rattle.dossier_terms.specs.declared.Reason.{Reason}
use Rattle.dossier_terms.specs.Dossier.{Dossier, IsGood}
use Rattle.dossier_terms.specs.Lines.{lines_of, text_of}
use Rattle.dossier_terms.specs.Reading.{Reading}
use Rattle.line_in.specs.declared.faults.LineFault.{LineFault}
use Rattle.line_in.specs.Faults.{reason_for}
use Rattle.dossier_commands.specs.Input.{Front, HasRead, IsGoing, IsRefusal as IsDossierRefusal, IsStop, room_after}
use Rattle.part_texts.specs.Accepted.{AreBundles}
use Rattle.part_texts.specs.Bundle.{ArePartsOf, Bundle, IsGoodBundle, IsTrueBundle, bound_of}
use Rattle.part_texts.specs.Lines.{count_words, first_words, lines_in_bundle, text_of_bundle}
use Rattle.part_lines.specs.Faults.{IsCountFault, IsFirstFault}
use Rattle.parts_reader.specs.declared.reason.BundleReason.{BundleReason}
use Rattle.parts_reader.specs.declared.reason.BundleReason.TheVariants.{Line, Part}
use Rattle.parts_reader.specs.declared.bundle.BundleVerdict.{BundleVerdict}
use Rattle.parts_reader.specs.declared.bundle.Outcome.{Outcome}
use Rattle.parts_reader.specs.declared.bundle.Outcome.TheVariants.{Yes, End, No, ReadFault}

-- ---- what is read of a bundle

-- what is read of the next bundle: nothing; its first line; the day's dossier too; and the line `parts` with this number, and dossiers of
-- parts
pub data Begun : Type 0 where
  Fresh : Begun
  InDay : Begun
  PastDay : (day : Dossier) → Begun
  InParts : (day : Dossier) (k : ℕ) (parts : List Dossier) → Begun

-- its bytes
abbrev pub text_begun : Begun → List ℕ
text_begun Fresh = []
text_begun InDay = line_text first_words
text_begun (PastDay day) = line_text first_words ++ text_of day
text_begun (InParts day k parts) = line_text first_words ++ (text_of day ++ (line_text (count_words k) ++ flat_map text_of parts))

-- how many lines these are
abbrev pub lines_begun : Begun → ℕ
lines_begun Fresh = 0
lines_begun InDay = 1
lines_begun (PastDay day) = 1 + length (lines_of day)
lines_begun (InParts day k parts) = 2 + (length (lines_of day) + length (flat_map lines_of parts))

-- the dossiers are good, and those behind the day's one are of parts of the day, so many at most
pub record HasParts (day : Dossier) (k : ℕ) (parts : List Dossier) : Type 0 where
  pub good_day : IsGood day
  pub few : k ≤ MOST_TASKS
  pub within : length parts ≤ k
  pub good : All IsGood parts
  pub divided : ArePartsOf day.instance parts

-- what is read breaks no rule
abbrev pub IsBegun : Begun → Type 0
IsBegun Fresh = Unit {0}
IsBegun InDay = Unit {0}
IsBegun (PastDay day) = IsGood day
IsBegun (InParts day k parts) = HasParts day k parts

-- a line between dossiers is due
abbrev pub IsLineDue : Begun → Type 0
IsLineDue Fresh = Unit {0}
IsLineDue InDay = ⊥
IsLineDue (PastDay day) = Unit {0}
IsLineDue (InParts day k parts) = ⊥

-- a dossier is due: that of the day, or one of a part, while there are fewer than the line `parts` tells
abbrev pub IsDossierDue : Begun → Type 0
IsDossierDue Fresh = ⊥
IsDossierDue InDay = Unit {0}
IsDossierDue (PastDay day) = ⊥
IsDossierDue (InParts day k parts) = length parts < k

-- the words have this fault as the line between dossiers that is due
abbrev pub IsFaultAt : Begun → Words → LineFault → Type 0
IsFaultAt Fresh words fault = IsFirstFault words fault
IsFaultAt InDay words fault = ⊥
IsFaultAt (PastDay day) words fault = IsCountFault words fault
IsFaultAt (InParts day k parts) words fault = ⊥

-- ---- what is read of an input

-- the bytes of whole bundles and of what is read of the next one
abbrev pub text_up_to : List Bundle → Begun → List ℕ
text_up_to done begun = flat_map text_of_bundle done ++ text_begun begun

-- how many lines these are
abbrev pub lines_up_to : List Bundle → Begun → ℕ
lines_up_to done begun = sum_by lines_in_bundle done + lines_begun begun

-- what comes before a dossier that is due
abbrev pub front_at : List Bundle → Begun → Front
front_at done begun = record { text = text_up_to done begun; count = lines_up_to done begun }

-- how many bytes may come after these
abbrev pub room_at : List Bundle → Begun → ℕ
room_at done begun = LONGEST_INPUT - length (text_up_to done begun)

-- the input begins with these good bundles and what is read of the next one, within the bytes that an input may have; the rest is left
pub record HasBegun (input : List ℕ) (done : List Bundle) (begun : Begun) (rest : List ℕ) : Type 0 where
  pub text : input ≡ text_up_to done begun ++ rest
  pub within : length (text_up_to done begun) ≤ LONGEST_INPUT
  pub good : All IsGoodBundle done
  pub begins : IsBegun begun

-- nothing comes behind a whole bundle
pub record IsEnd (done : List Bundle) (begun : Begun) (rest : List ℕ) : Type 0 where
  pub some : done ≢ []
  pub between : begun ≡ Fresh
  pub none : rest ≡ []

-- the first line of the input that is refused, behind these bundles, numbered from 1, and why
pub data IsRefusal (input : List ℕ) (done : List Bundle) (number : ℕ) (reason : BundleReason) : Type 0 where
  -- a line between dossiers has a fault
  BadLine : (begun : Begun) (line after : List ℕ) (read : HasBegun input done begun (with_feed line ++ after)) (plain : IsLine line) (fits : length line < room_at done begun)
      (fault : LineFault) (how : IsFaultAt begun (words_of line) fault) (is : number ≡ suc (lines_up_to done begun)) (why : reason ≡ Line (reason_for fault)) → IsRefusal input done number reason
  -- no line comes whole where one between dossiers is due
  NoLine : (begun : Begun) (rest : List ℕ) (read : HasBegun input done begun rest) (due : IsLineDue begun) (cause : Reason) (stop : IsStop (room_at done begun) rest cause)
      (more : IsEnd done begun rest → ⊥) (is : number ≡ suc (lines_up_to done begun)) (why : reason ≡ Line cause) → IsRefusal input done number reason
  -- a line of a dossier is refused
  InDossier : (begun : Begun) (rest : List ℕ) (read : HasBegun input done begun rest) (due : IsDossierDue begun) (cause : Reason)
      (refusal : IsDossierRefusal (front_at done begun) input [] number cause) (why : reason ≡ Line cause) → IsRefusal input done number reason
  -- the last line of a good dossier that is of no part of the day, or of one with a task of those before it
  BadPart : (day : Dossier) (k : ℕ) (parts : List Dossier) (d : Dossier) (rest : List ℕ) (read : HasBegun input done (InParts day k parts) (text_of d ++ rest))
      (due : length parts < k) (fits : length (text_of d) ≤ room_at done (InParts day k parts)) (good : IsGood d) (part : ArePartsOf day.instance (parts ++ d ∷ []) → ⊥)
      (is : number ≡ lines_up_to done (InParts day k parts) + length (lines_of d)) (why : reason ≡ Part) → IsRefusal input done number reason

-- what was read behind these bundles where a read failed, of which no line is refused, with a front of one more; the rest is unseen
pub data IsUnrefused (input : List ℕ) (done : List Bundle) (part rest : List ℕ) : Type 0 where
  BetweenDossiers : (begun : Begun) (read : HasBegun input done begun (part ++ rest)) (due : IsLineDue begun) (front : IsPartial (room_at done begun) part (length part)) → IsUnrefused input done part rest
  AmidDossier : (begun : Begun) (behind : List ℕ) (begins : HasBegun input done begun behind) (due : IsDossierDue begun) (lines : List (List ℕ)) (reading : Reading)
      (read : HasRead (front_at done begun) input [] lines (part ++ rest) reading) (front : IsPartial (room_after (front_at done begun) [] lines) part (length part)) → IsUnrefused input done part rest

-- a read failed
pub record IsInterrupted (input : List ℕ) (done : List Bundle) (left : Option (List ℕ)) : Type 0 where
  pub part : List ℕ
  pub unseen : List ℕ
  pub rest : left ≡ Some unseen
  pub read : IsUnrefused input done part unseen

-- ---- where a reader stands

-- the reader has handed out these bundles and this of the next one, so many lines
pub record IsPlace (input : List ℕ) (done : List Bundle) (begun : Begun) (reader : Reader) (left : Option (List ℕ)) (lines : ℕ) : Type 0 where
  pub rest : List ℕ
  pub is : rest_of reader left ≡ Some rest
  pub read : HasBegun input done begun rest
  pub handed : reader.handed ≡ length (text_up_to done begun)
  pub number : lines ≡ lines_up_to done begun

-- it has handed out these bundles, and is to hand out the next one
abbrev pub IsBetween : List ℕ → List Bundle → Reader → Option (List ℕ) → ℕ → Type 0
IsBetween input done reader left lines = IsPlace input done Fresh reader left lines

-- what a good bundle says
abbrev pub verdict_of_bundle : Bundle → BundleVerdict
verdict_of_bundle b = record { unassigned = unassigned_count b.day.plan; bound = bound_of b; parts = length b.parts }

-- the next bundle is good, this is what it says, and it is true
pub record IsNextBundle (input : List ℕ) (done : List Bundle) (verdict : BundleVerdict) (reader : Reader) (left : Option (List ℕ)) (lines : ℕ) : Type 0 where
  pub bundle : Bundle
  pub says : verdict ≡ verdict_of_bundle bundle
  pub true_yes : IsTrueBundle bundle
  pub between : IsBetween input (done ++ bundle ∷ []) reader left lines

-- what a reading behind these bundles found
abbrev pub IsOutcome : List ℕ → List Bundle → Reader → Option (List ℕ) → ℕ → Outcome → Type 0
IsOutcome input done reader left lines (Yes verdict) = IsNextBundle input done verdict reader left lines
IsOutcome input done reader left lines End = AreBundles input done
IsOutcome input done reader left lines (No line reason) = IsRefusal input done line reason
IsOutcome input done reader left lines ReadFault = IsInterrupted input done left

-- after a bundle the reader can go on, and more was handed out
abbrev pub OpensNext : Reader → Reader → ℕ → Outcome → Type 0
OpensNext old new lines (Yes verdict) = IsGoing new lines × (old.handed < new.handed)
OpensNext old new lines End = Unit {0}
OpensNext old new lines (No line reason) = Unit {0}
OpensNext old new lines ReadFault = Unit {0}
