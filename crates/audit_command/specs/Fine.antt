-- what is written of an event is a front of itself, and of dossiers that belong to their day it is told that they do
use Rattle.std.proofs.Common.{◌≡◌, ℕ, List, length, ap, refl, sym, ◌∙◌}
use Rattle.std.proofs.Math.Seq.{take-length}
use Rattle.audit_command.specs.Events.{Belongs, IsFineAudit}
use Rattle.audit_command.specs.Says.{OfEvent, SaysEvent, SaysFront, end_of}
use Rattle.audit_command.specs.Texts.{event_text}
use Rattle.audit_command.specs.declared.ended.Ended.{Ended}
use Rattle.audit_command.specs.declared.ended.Ended.TheVariants.{Done}
use Rattle.audit_command.specs.declared.event.Event.TheVariants.{Belong}

pub event_is_front : (ended : Ended) (input written : List ℕ) → SaysEvent ended input written → SaysFront input written
event_is_front ended input written says = OfEvent says.event says.is (length (event_text says.event)) (says.line ∙ sym (take-length (event_text says.event)))

pub fine_is_done : (ended : Ended) (input written : List ℕ) → SaysEvent ended input written → IsFineAudit input → ended ≡ Done
fine_is_done ended input written says fine =
    says.end ∙ ap end_of (sym (says.only (Belong (length fine.dossiers)) (Belongs fine.text fine.dossiers fine.audited fine.belong refl)))
