-- the lines of the instance and of its frozen jobs, and what is due behind them
use Rattle.std.proofs.Common.{◌≡◌, refl}
use Rattle.std.specs.Prelude.{Ok, Err}
use Rattle.std.specs.Global.{Box}
use Rattle.crew_terms.specs.Words.{Words}
use Rattle.dossier_terms.specs.Reading as dossiers
use Rattle.dossier_terms.specs.Table.{Says}
use Rattle.head_check.specs.Head.{GoesOn, HeadTells, Holds, IsLineDue, reading_of}
use Rattle.head_check.specs.declared.due.Base.{Base}
use Rattle.head_check.specs.declared.due.HeadDue.{HeadDue}
use Rattle.head_check.specs.declared.due.HeadDue.TheVariants as heads
use Rattle.line_in.specs.declared.refusals.Refusal.{Refusal}
use Rattle.line_in.specs.declared.refusals.Refusal.TheVariants.{No, OutOfMemory}
use Rattle.sheet_terms.specs.Reading.{Head as HeadIsDue, head_due}
use Rattle.sheet_terms.specs.Table.{SaysOfSheet}
use Rattle.sheet_checker.specs.Due.{Awaits, Tells}
use Rattle.sheet_checker.specs.declared.due.Due.{Due}
use Rattle.sheet_checker.specs.declared.due.Due.TheVariants.{Head}
use Rattle.sheet_checker.specs.declared.due.Step.TheVariants.{More}

-- a line of the head is due where the instance is not whole
pub line_due : (next : HeadDue) → IsLineDue next → Holds next → Awaits (Head next) (head_due (reading_of next))
line_due heads.Form line holds = (line, holds, refl)
line_due (heads.Size form) line holds = (line, holds, refl)
line_due (heads.Place head more) line holds = (line, holds, refl)
line_due (heads.Travel head more) line holds = (line, holds, refl)
line_due (heads.Team head more) line holds = (line, holds, refl)
line_due (heads.Task head more) line holds = (line, holds, refl)
line_due (heads.Frozen head) line holds = (line, holds, refl)
line_due (heads.Keep head more from) line holds = (line, holds, refl)
line_due (heads.Whole base) line holds = absurd line

-- the rules of such a line go on
pub head_goes : (due next : HeadDue) (ws : Words) (new : Due) → GoesOn (Says (reading_of due) ws) next → Awaits new (head_due (reading_of next))
    → Tells (SaysOfSheet (HeadIsDue (reading_of due)) ws) (Ok (More new))
head_goes due next ws new goes awaits = (head_due (reading_of next), (dossiers.More (reading_of next), goes.says, refl), awaits)

-- or refuse it, or memory is wanting
pub head_refused : (due : HeadDue) (ws : Words) (refusal : Refusal) → HeadTells (Says (reading_of due) ws) (Err refusal) → Tells (SaysOfSheet (HeadIsDue (reading_of due)) ws) (Err refusal)
head_refused due ws (No reason) says = (dossiers.No reason, says, refl)
head_refused due ws OutOfMemory says = tt

-- a line is due where the instance is not whole
pub not_whole : (due : HeadDue) → ((base : Box Base) → due ≡ heads.Whole base → ⊥) → IsLineDue due
not_whole heads.Form other = tt
not_whole (heads.Size form) other = tt
not_whole (heads.Place head more) other = tt
not_whole (heads.Travel head more) other = tt
not_whole (heads.Team head more) other = tt
not_whole (heads.Task head more) other = tt
not_whole (heads.Frozen head) other = tt
not_whole (heads.Keep head more from) other = tt
not_whole (heads.Whole base) other = other base refl
