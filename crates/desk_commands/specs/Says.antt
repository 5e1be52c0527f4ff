-- what a command of the desk over dossiers says of what it reads and writes
use Rattle.std.specs.Prelude.{◌≡◌, ◌++◌, ℕ, List, Result, [], length, take, Option, Some, Ok, Err, IfOk, All}
use Rattle.crew_io.specs.Io.{HasEnded}
use Rattle.crew_io.specs.Bytes.{OfBytes}
use Rattle.crew_io.specs.Lines.{IsPartial}
use Rattle.crew_io.specs.Puts.{Puts, TellsWrites}
use Rattle.crew_io.specs.Draws.{TellsReads}
use Rattle.crew_io.specs.declared.sink.Sink.{Ghosts as SinkTells}
use Rattle.crew_io.specs.declared.source.Source.{Ghosts as SourceTells}
use Rattle.dossier_terms.specs.Dossier.{Dossier}
use Rattle.dossier_terms.specs.Reading.{Reading, Form}
use Rattle.dossier_terms.specs.Accepted.{IsAccepted}
use Rattle.cert_checker.specs.Checked.{IsTrueYes}
use Rattle.dossier_commands.specs.Input.{IsRefusal, HasRead, room_after, no_front}
use Rattle.desk_commands.specs.Rounds.{begun_text, desk_text}
use Rattle.desk_commands.specs.declared.output.DeskOutput.{DeskOutput}
use Rattle.desk_commands.specs.declared.read.Refusal.{Refusal}
use Rattle.desk_commands.specs.declared.read.Ended.{Ended}
use Rattle.desk_commands.specs.declared.read.Ended.TheVariants.{Done, No, ReadFault, WriteFault}

-- the input is accepted as these dossiers, whose text was written
pub record SaysDone (output : DeskOutput) (input written : List ℕ) : Type 0 where
  pub dossiers : List Dossier
  pub accepted : IsAccepted input dossiers
  pub text : written ≡ desk_text output dossiers
  pub each : All IsTrueYes dossiers

-- the input is accepted as no dossiers: this is the first line that is refused, and the text of the dossiers before it was
-- written, to its end
pub record SaysNo (output : DeskOutput) (told : Refusal) (input written : List ℕ) : Type 0 where
  pub not_accepted : (dossiers : List Dossier) → IsAccepted input dossiers → ⊥
  pub before : List Dossier
  pub refusal : IsRefusal no_front input before told.line told.reason
  pub text : written ≡ desk_text output before
  pub each : All IsTrueYes before

-- a front of the text of dossiers with which the input begins was written, and nothing else
pub record SaysFront (output : DeskOutput) (input written : List ℕ) : Type 0 where
  pub dossiers : List Dossier
  pub rest : List ℕ
  pub read : HasRead no_front input dossiers [] rest Form
  pub each : All IsTrueYes dossiers
  pub length_written : ℕ
  pub front : written ≡ take length_written (desk_text output dossiers)

-- the input is what was read and what was not seen: good dossiers, whose text was written but for its end, lines of the next
-- one of which none is refused, and the front of one more line
pub record SaysReadFault (output : DeskOutput) (unseen : Option (List ℕ)) (input written : List ℕ) : Type 0 where
  pub dossiers : List Dossier
  pub lines : List (List ℕ)
  pub due : Reading
  pub part : List ℕ
  pub rest : List ℕ
  pub left : unseen ≡ Some rest
  pub read : HasRead no_front input dossiers lines (part ++ rest) due
  pub front : IsPartial (room_after no_front dossiers lines) part (length part)
  pub text : written ≡ begun_text output dossiers
  pub each : All IsTrueYes dossiers

-- what each end says of the input, of what its source has left, and of what was written
abbrev pub SaysAt : DeskOutput → Ended → Option (List ℕ) → List ℕ → List ℕ → Type 0
SaysAt output Done unseen input written = SaysDone output input written
SaysAt output (No told) unseen input written = SaysNo output told input written
SaysAt output ReadFault unseen input written = SaysReadFault output unseen input written
SaysAt output WriteFault unseen input written = SaysFront output input written

-- a command of the desk: what its answer says, what was written whatever the answer, that what is done was read to its end,
-- and what is told of faults
pub record ReadsDesk {S K E : Type 0} (source : SourceTells S) (sink : SinkTells K) (output : DeskOutput) (src later : S) (out new : K) (result : Result Ended E) : Type 0 where
  pub says : IfOk result (λ ended. OfBytes (source.left src) (sink.got out) (sink.got new) (SaysAt output ended (source.left later)))
  pub front : OfBytes (source.left src) (sink.got out) (sink.got new) (SaysFront output)
  pub ended : result ≡ Ok Done → HasEnded (source.left later)
  pub reads : TellsReads source src later (result ≡ Ok ReadFault)
  pub writes : TellsWrites sink out new (result ≡ Ok WriteFault)

-- the end where a last write answers this
abbrev pub ended_by : {T E : Type 0} → Ended → Result T E → Ended
ended_by ended (Ok x) = ended
ended_by ended (Err e) = WriteFault

-- a call writes this last text, and ends so, or with the fault of that write
pub record Finishes {K : Type 0} (sink : SinkTells K) (text : List ℕ) (ended : Ended) (old new : K) (result : Ended) : Type 0 where
  pub answer : Result (Unit {0}) (Unit {0})
  pub puts : Puts sink text old new answer
  pub is : result ≡ ended_by ended answer
