-- what an audit says of what it reads and writes
use Rattle.std.specs.Prelude.{◌≡◌, ℕ, List, Result, [], take, Option, Ok, IfOk, OnErr}
use Rattle.crew_io.specs.Io.{Appended, AppendedPart, HasEnded}
use Rattle.crew_io.specs.Bytes.{OfBytes}
use Rattle.crew_io.specs.Puts.{TellsWrites}
use Rattle.crew_io.specs.Draws.{TellsReads}
use Rattle.crew_io.specs.declared.sink.Sink.{Ghosts as SinkTells}
use Rattle.crew_io.specs.declared.source.Source.{Ghosts as SourceTells}
use Rattle.audit_command.specs.Events.{IsEvent}
use Rattle.audit_command.specs.Reads.{IsUnread}
use Rattle.audit_command.specs.Texts.{event_text}
use Rattle.audit_command.specs.declared.event.Event.{Event}
use Rattle.audit_command.specs.declared.event.Event.TheVariants as events
use Rattle.audit_command.specs.declared.ended.Ended.{Ended}
use Rattle.audit_command.specs.declared.ended.Ended.TheVariants.{Done, No, Refused, ReadFault, WriteFault}

-- the end of an audit that comes to the event
abbrev pub end_of : Event → Ended
end_of (events.Refused number cause) = Refused
end_of (events.Belong rounds) = Done
end_of event = No

-- the line of the event was written, or a front of it where the write failed
pub data IsTold (got later : Option (List ℕ)) (event : Event) (ended : Ended) : Type 0 where
  Whole : (is : ended ≡ end_of event) (all : Appended got later (event_text event)) → IsTold got later event ended
  Cut : (is : ended ≡ WriteFault) (part : AppendedPart got later (event_text event)) → IsTold got later event ended

-- the input comes to an event of this end and to no other, and its line was written
pub record SaysEvent (ended : Ended) (input written : List ℕ) : Type 0 where
  pub event : Event
  pub is : IsEvent input event
  pub only : (other : Event) → IsEvent input other → other ≡ event
  pub end : ended ≡ end_of event
  pub line : written ≡ event_text event

-- nothing was written, or a front of the line of the event to which the input comes
pub data SaysFront (input written : List ℕ) : Type 0 where
  Nothing : (none : written ≡ []) → SaysFront input written
  OfEvent : (event : Event) (is : IsEvent input event) (n : ℕ) (front : written ≡ take n (event_text event)) → SaysFront input written

-- nothing was written, and a read failed
pub record SaysNothing (unseen : Option (List ℕ)) (input written : List ℕ) : Type 0 where
  pub none : written ≡ []
  pub read : IsUnread unseen input

-- what each end says of the input, of what its source has left, and of what was written
abbrev pub SaysAt : Ended → Option (List ℕ) → List ℕ → List ℕ → Type 0
SaysAt ReadFault unseen input written = SaysNothing unseen input written
SaysAt WriteFault unseen input written = SaysFront input written
SaysAt ended unseen input written = SaysEvent ended input written

-- an audit: what its answer says; that nothing was written where memory was wanting; that what belongs was read to its end; and
-- what is told of faults
pub record ReadsAudit {S K E : Type 0} (source : SourceTells S) (sink : SinkTells K) (src later : S) (out new : K) (result : Result Ended E) : Type 0 where
  pub says : IfOk result (λ ended. OfBytes (source.left src) (sink.got out) (sink.got new) (SaysAt ended (source.left later)))
  pub memory : OnErr result (sink.got new ≡ sink.got out)
  pub ended : result ≡ Ok Done → HasEnded (source.left later)
  pub reads : TellsReads source src later (result ≡ Ok ReadFault)
  pub writes : TellsWrites sink out new (result ≡ Ok WriteFault)
