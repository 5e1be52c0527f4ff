-- what the commands over days say of what they read and write
use Rattle.std.specs.Prelude.{◌≡◌, ℕ, List, Result, Bool, true, false, Option, Ok, IfOk, IfSome, IsTrue, OnErr}
use Rattle.crew_io.specs.Io.{HasEnded}
use Rattle.crew_io.specs.Bytes.{OfBytes}
use Rattle.crew_io.specs.Puts.{TellsWrites}
use Rattle.crew_io.specs.Draws.{TellsReads}
use Rattle.crew_io.specs.declared.sink.Sink.{Ghosts as SinkTells}
use Rattle.crew_io.specs.declared.source.Source.{Ghosts as SourceTells}
use Rattle.day_commands.specs.Rounds.{IsFineDay, SaysRounds, IsRefusedOutput, SaysOutputPart, SaysFirstRounds, SaysNothingRead, change_stop}
use Rattle.day_commands.specs.Outputs.{MayHave, TextsOf, ProvedOf, UnprovedOf, are_dossiers}
use Rattle.day_commands.specs.declared.ended.DayOutput.{DayOutput}
use Rattle.day_commands.specs.declared.ended.Ended.{Ended}
use Rattle.day_commands.specs.declared.ended.Ended.TheVariants.{Done, Unproved, Refused, ReadFault, WriteFault}

-- what each end says of the input, of what its source has left, and of what was written
abbrev pub SaysAt : DayOutput → Ended → Option (List ℕ) → List ℕ → List ℕ → Type 0
SaysAt output Done unseen input written = SaysRounds change_stop (ProvedOf output) input written
SaysAt output Unproved unseen input written = SaysRounds change_stop (UnprovedOf output) input written
SaysAt output Refused unseen input written = IsRefusedOutput change_stop (TextsOf output) input written
SaysAt output ReadFault unseen input written = SaysNothingRead unseen input written
SaysAt output WriteFault unseen input written = SaysOutputPart change_stop (TextsOf output) input written

-- what is written where memory is wanting
abbrev pub SaysFirstOf : DayOutput → List ℕ → List ℕ → Type 0
SaysFirstOf output input written = SaysFirstRounds change_stop (TextsOf output) input written

-- the end of a day of which no record is refused
abbrev pub whole_end : Bool → Ended
whole_end true = Done
whole_end false = Unproved

-- the day was taken to its end
abbrev pub is_whole : Ended → Bool
is_whole Done = true
is_whole Unproved = true
is_whole _ = false

-- the answers to a record that is refused
abbrev pub is_refused_or_write_fault : Ended → Bool
is_refused_or_write_fault Refused = true
is_refused_or_write_fault WriteFault = true
is_refused_or_write_fault _ = false

-- the answers to a day's text
abbrev pub is_of_text : DayOutput → Ended → Bool
is_of_text output ReadFault = false
is_of_text output Unproved = are_dossiers output
is_of_text output _ = true

-- the ends of a command over a day
abbrev pub can_end : DayOutput → Ended → Bool
can_end output Unproved = are_dossiers output
can_end output _ = true

-- a command over a day, which writes this of each round: what its answer says, and where memory was wanting; how it can end;
-- that what is refused is not fine, and what is whole was read to its end; and what is told of faults
pub record ReadsDay {S K E : Type 0} (source : SourceTells S) (sink : SinkTells K) (output : DayOutput) (src later : S) (out new : K) (result : Result Ended E) : Type 0 where
  pub says : IfOk result (λ ended. OfBytes (source.left src) (sink.got out) (sink.got new) (SaysAt output ended (source.left later)))
  pub memory : OnErr result (OfBytes (source.left src) (sink.got out) (sink.got new) (SaysFirstRounds change_stop (TextsOf output)))
  pub ends : IfOk result (λ ended. IsTrue (can_end output ended))
  pub refused : result ≡ Ok Refused → IfSome (source.left src) (λ input. IsFineDay change_stop (MayHave output) input → ⊥)
  pub ended : IfOk result (λ ended. IsTrue (is_whole ended) → HasEnded (source.left later))
  pub reads : TellsReads source src later (result ≡ Ok ReadFault)
  pub writes : TellsWrites sink out new (result ≡ Ok WriteFault)
