-- what is told of an event
use Rattle.std.proofs.Common.{◌≡◌, ℕ, List, [], Option, None, Some, take, subst, sym, refl, ◌∙◌}
use Rattle.crew_io.specs.Appends.{appended_none}
use Rattle.crew_io.specs.Bytes.{OfBytes}
use Rattle.crew_io.specs.Io.{Appended, AppendedPart}
use Rattle.audit_command.specs.Events.{IsEvent}
use Rattle.audit_command.specs.Reads.{IsUnread}
use Rattle.audit_command.specs.Says.{Cut, IsTold, OfEvent, SaysAt, SaysEvent, Whole, end_of}
use Rattle.audit_command.specs.Texts.{event_text}
use Rattle.audit_command.specs.declared.ended.Ended.{Ended}
use Rattle.audit_command.specs.declared.ended.Ended.TheVariants.{Done, ReadFault, WriteFault}
use Rattle.audit_command.specs.declared.event.Event.{Event}
use Rattle.audit_command.specs.declared.event.Event.TheVariants.{BadDossier, Belong, Instance, Kept, More, NoDossiers, Nodes, Refused}

-- an event's end is no fault
says_end : (event : Event) (unseen : Option (List ℕ)) (input written : List ℕ) → SaysEvent (end_of event) input written → SaysAt (end_of event) unseen input written
says_end (NoDossiers why) unseen input written says = says
says_end (Refused number cause) unseen input written says = says
says_end (BadDossier round line reason) unseen input written says = says
says_end (Instance round) unseen input written says = says
says_end (Nodes round) unseen input written says = says
says_end (Kept round) unseen input written says = says
says_end (More rounds) unseen input written says = says
says_end (Belong rounds) unseen input written says = says

pub end_no_read_fault : (event : Event) → end_of event ≡ ReadFault → ⊥
end_no_read_fault (NoDossiers why) e = cc
end_no_read_fault (Refused number cause) e = cc
end_no_read_fault (BadDossier round line reason) e = cc
end_no_read_fault (Instance round) e = cc
end_no_read_fault (Nodes round) e = cc
end_no_read_fault (Kept round) e = cc
end_no_read_fault (More rounds) e = cc
end_no_read_fault (Belong rounds) e = cc

pub end_no_write_fault : (event : Event) → end_of event ≡ WriteFault → ⊥
end_no_write_fault (NoDossiers why) e = cc
end_no_write_fault (Refused number cause) e = cc
end_no_write_fault (BadDossier round line reason) e = cc
end_no_write_fault (Instance round) e = cc
end_no_write_fault (Nodes round) e = cc
end_no_write_fault (Kept round) e = cc
end_no_write_fault (More rounds) e = cc
end_no_write_fault (Belong rounds) e = cc

-- only dossiers that belong to their day end so
pub done_belongs : (event : Event) → end_of event ≡ Done → (rounds : ℕ) × (event ≡ Belong rounds)
done_belongs (NoDossiers why) e = absurd (cc)
done_belongs (Refused number cause) e = absurd (cc)
done_belongs (BadDossier round line reason) e = absurd (cc)
done_belongs (Instance round) e = absurd (cc)
done_belongs (Nodes round) e = absurd (cc)
done_belongs (Kept round) e = absurd (cc)
done_belongs (More rounds) e = absurd (cc)
done_belongs (Belong rounds) e = (rounds, refl)

-- what is told is no read fault
pub told_no_read_fault : (got later : Option (List ℕ)) (event : Event) (ended : Ended) → IsTold got later event ended → ended ≡ ReadFault → ⊥
told_no_read_fault got later event ended (Whole is all) e = end_no_read_fault event (sym is ∙ e)
told_no_read_fault got later event ended (Cut is part) e = let f = sym is ∙ e in cc

pub told_done : (got later : Option (List ℕ)) (event : Event) (ended : Ended) → IsTold got later event ended → ended ≡ Done → (rounds : ℕ) × (event ≡ Belong rounds)
told_done got later event ended (Whole is all) e = done_belongs event (sym is ∙ e)
told_done got later event ended (Cut is part) e = absurd (let f = sym is ∙ e in cc)

-- a front that was added
part_wrote : (got later : Option (List ℕ)) (text : List ℕ) → AppendedPart got later text → (n : ℕ) × Appended got later (take n text)
part_wrote None later text part = (0, part)
part_wrote (Some bytes) later text part = (part.0, part.2)

-- what is said of an input of the event
pub says_told : (left unseen got later : Option (List ℕ)) (event : Event) (ended : Ended) → ((input : List ℕ) (a b : Event) → IsEvent input a → IsEvent input b → b ≡ a)
    → ((input : List ℕ) → left ≡ Some input → IsEvent input event) → IsTold got later event ended → OfBytes left got later (SaysAt ended unseen)
says_told None unseen got later event ended one is told = tt
says_told (Some input) unseen got later event ended one is (Whole end all) =
    let h = is input refl in
    subst (λ e. OfBytes (Some input) got later (SaysAt e unseen)) (sym end)
    (event_text event, all, says_end event unseen input (event_text event) (record { event = event; is = h; only = λ other p. one input event other h p; end = refl; line = refl }))
says_told (Some input) unseen got later event ended one is (Cut end part) =
    let w = part_wrote got later (event_text event) part in
    subst (λ e. OfBytes (Some input) got later (SaysAt e unseen)) (sym end)
    (take w.0 (event_text event), w.1, OfEvent event (is input refl) w.0 refl)

-- nothing was written where a read failed
pub says_unread : (left unseen got : Option (List ℕ)) → ((input : List ℕ) → left ≡ Some input → IsUnread unseen input) → OfBytes left got got (SaysAt ReadFault unseen)
says_unread None unseen got is = tt
says_unread (Some input) unseen got is = ([], appended_none got, record { none = refl; read = is input refl })
