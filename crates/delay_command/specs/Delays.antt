-- the inputs of the command `delays`, and what is written for them
use Rattle.std.specs.Prelude.{◌≡◌, ◌++◌, ℕ, List, [], ◌∷◌, Option, length, map, All}
use Rattle.crew_io.specs.Lines.{IsPartial}
use Rattle.delay_print.specs.Texts.{delays_text}
use Rattle.delay_wave.specs.Waits.{AreWaits}
use Rattle.delay_wave.specs.declared.waits.Wait.{Wait}
use Rattle.dossier_terms.specs.declared.Reason.{Reason}
use Rattle.dossier_terms.specs.Dossier.{Dossier}
use Rattle.dossier_commands.specs.Input.{Front, IsAcceptedBehind, front_of}
use Rattle.late_lines.specs.declared.first_line.LateLine.{LateLine}
use Rattle.late_lines.specs.Lines.{AreLateLines, first_lines, late_text}
use Rattle.late_lines.specs.First.{BeginsWith, IsFirstRefusal, room_past}
use Rattle.delay_command.specs.Alone.{IsRefusedBehind, IsUnrefusedBehind}
use Rattle.delay_command.specs.Tasks.{IsDone, IsFirstUndone, lates_in}

-- what comes before the dossier: the late lines, and the line `dossier`
abbrev pub late_front : List LateLine → Front
late_front lines = front_of (first_lines lines)

-- the input is late lines, the line `dossier` and the text of a good dossier, whose plan does the tasks of these lines
pub record IsDelays (input : List ℕ) (lines : List LateLine) (d : Dossier) : Type 0 where
  pub are : AreLateLines lines
  pub accepted : IsAcceptedBehind (late_front lines) input (d ∷ [])
  pub done : All (IsDone d.instance d.plan) lines

-- the text tells the waits of the dossier's plan, if its tasks end as late as the lines tell
pub record IsDelaysText (lines : List LateLine) (d : Dossier) (text : List ℕ) : Type 0 where
  pub waits : List (Option Wait)
  pub are : AreWaits d.instance d.plan (lates_in d.instance lines) waits
  pub is : text ≡ delays_text d.instance d.plan waits

-- the first line of the input that is refused, from 1, and why: a line before the dossier, one of the dossier, or any byte after it;
-- and where there is none of these, the first line whose task the dossier's plan does not do
pub data IsDelaysRefusal (input : List ℕ) (number : ℕ) (reason : Reason) : Type 0 where
  BeforeDossier : (refusal : IsFirstRefusal input number reason) → IsDelaysRefusal input number reason
  FromDossier : (lines : List LateLine) (are : AreLateLines lines) (refusal : IsRefusedBehind (late_front lines) input number reason) → IsDelaysRefusal input number reason
  NotDone : (lines : List LateLine) (are : AreLateLines lines) (d : Dossier) (accepted : IsAcceptedBehind (late_front lines) input (d ∷ []))
      (undone : IsFirstUndone d.instance d.plan lines number reason) → IsDelaysRefusal input number reason

-- what was read where a read failed, of which no line is refused, with a front of one more; the rest is unseen
pub data IsUnrefused (input part rest : List ℕ) : Type 0 where
  AmidLates : (lines : List LateLine) (are : AreLateLines lines) (read : BeginsWith (map late_text lines) input (part ++ rest))
      (begun : IsPartial (room_past (map late_text lines)) part (length part)) → IsUnrefused input part rest
  PastLates : (lines : List LateLine) (are : AreLateLines lines) (read : IsUnrefusedBehind (late_front lines) input part rest) → IsUnrefused input part rest
