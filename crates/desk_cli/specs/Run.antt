-- the commands, and what each outcome says
use Rattle.std.specs.Prelude.{◌≡◌, ◌⊎◌, ℕ, List, [], ◌∷◌, Option, None, Some, codes, IfSome}
use Rattle.crew_io.specs.Io.{HasEnded, Rose}
use Rattle.crew_io.specs.Bytes.{OfBytes}
use Rattle.crew_io.specs.Puts.{TellsWrites}
use Rattle.crew_io.specs.Draws.{TellsReads}
use Rattle.crew_io.specs.declared.sink.Sink.{Ghosts as SinkTells}
use Rattle.crew_io.specs.declared.source.Source.{Ghosts as SourceTells}
use Rattle.dossier_terms.specs.Dossier.{Dossier}
use Rattle.dossier_terms.specs.Accepted.{IsAccepted}
use Rattle.desk_commands.specs.Says.{SaysDone, SaysNo, SaysFront, SaysReadFault}
use Rattle.desk_commands.specs.declared.output.DeskOutput.{DeskOutput}
use Rattle.desk_commands.specs.declared.output.DeskOutput.TheVariants as output
use Rattle.desk_commands.specs.declared.read.Refusal.{Refusal}
use Rattle.day_explain.specs.Says.{IsFineText, SaysFine, SaysFront as SaysDayFront, SaysNothingRead, SaysWrong}
use Rattle.desk_cli.specs.declared.run.Command.{Command}
use Rattle.desk_cli.specs.declared.run.Command.TheVariants.{Changes, Picture, Explain}
use Rattle.desk_cli.specs.declared.run.Outcome.{Outcome}
use Rattle.desk_cli.specs.declared.status.Status.{Status}
use Rattle.desk_cli.specs.declared.status.Status.TheVariants.{Done, No, Words, ReadFault, WriteFault, Memory}

-- a line is told as refused, and the text of the dossiers before it was written
abbrev pub SaysRefused : DeskOutput → Option Refusal → List ℕ → List ℕ → Type 0
SaysRefused output None input written = ⊥
SaysRefused output (Some told) input written = SaysNo output told input written

-- what an outcome of a command over dossiers says; no other status comes
abbrev pub DossiersSay : DeskOutput → Status → Option Refusal → Option (List ℕ) → List ℕ → List ℕ → Type 0
DossiersSay output Done told unseen input written = SaysDone output input written
DossiersSay output No told unseen input written = SaysRefused output told input written
DossiersSay output ReadFault told unseen input written = SaysReadFault output unseen input written
DossiersSay output WriteFault told unseen input written = SaysFront output input written
DossiersSay output Memory told unseen input written = SaysFront output input written
DossiersSay output Words told unseen input written = ⊥

-- what an outcome of a command over a day says; no other status comes
abbrev pub DaySays : Status → Option (List ℕ) → List ℕ → List ℕ → Type 0
DaySays Done unseen input written = SaysFine input written
DaySays No unseen input written = SaysWrong input written
DaySays ReadFault unseen input written = SaysNothingRead unseen input written
DaySays WriteFault unseen input written = SaysDayFront input written
DaySays Memory unseen input written = written ≡ []
DaySays Words unseen input written = ⊥

-- the bytes are accepted as some dossiers
abbrev pub AreDossiers : List ℕ → Type 0
AreDossiers input = (dossiers : List Dossier) × IsAccepted input dossiers

-- what is promised of a command: the word that asks for it; what each outcome says of the input, of what its source has left, and of
-- what was written; and the input that it takes to its end
pub record Promises : Type 1 where
  pub word : List ℕ
  pub says : Outcome → Option (List ℕ) → List ℕ → List ℕ → Type 0
  pub fine : List ℕ → Type 0

-- a command over dossiers
abbrev pub over_dossiers : List ℕ → DeskOutput → Promises
over_dossiers word output = record {
  word = word;
  says = λ outcome. DossiersSay output outcome.status outcome.refusal;
  fine = AreDossiers;
}

-- a command over a day; it tells no line in its outcome
abbrev pub over_day : List ℕ → Promises
over_day word = record {
  word = word;
  says = λ outcome unseen input written. (outcome.refusal ≡ None) × DaySays outcome.status unseen input written;
  fine = IsFineText;
}

-- the commands, with what is promised of each
abbrev pub promises_of : Command → Promises
promises_of Changes = over_dossiers (codes "changes") output.Changes
promises_of Picture = over_dossiers (codes "picture") output.Picture
promises_of Explain = over_day (codes "explain")

-- the words ask for the command
abbrev pub AskFor : Command → List (List ℕ) → Type 0
AskFor command words = words ≡ (promises_of command).word ∷ []

-- a call keeps what is promised of a command: what its outcome says, and what was written whatever the outcome; that it ends with one
-- of its statuses; that what is done was read to its end; what is told of faults; and that input that is fine is done, or memory was
-- wanting, where no count of faults rose
pub record Answers {S K : Type 0} (source : SourceTells S) (sink : SinkTells K) (promises : Promises) (src later : S) (out new : K) (outcome : Outcome) : Type 0 where
  pub says : OfBytes (source.left src) (sink.got out) (sink.got new) (promises.says outcome (source.left later))
  pub part : OfBytes (source.left src) (sink.got out) (sink.got new) (promises.says (record { status = WriteFault; refusal = None }) (source.left later))
  pub words : outcome.status ≡ Words → ⊥
  pub ended : outcome.status ≡ Done → HasEnded (source.left later)
  pub reads : TellsReads source src later (outcome.status ≡ ReadFault)
  pub writes : TellsWrites sink out new (outcome.status ≡ WriteFault)
  pub complete : IfSome (source.left src) (λ input. promises.fine input
      → (Rose (source.faults src) (source.faults later) → ⊥) → (Rose (sink.faults out) (sink.faults new) → ⊥) → (outcome.status ≡ Done) ⊎ (outcome.status ≡ Memory))
