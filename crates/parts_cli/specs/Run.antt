-- the commands, and what each status says
use Rattle.std.specs.Prelude.{◌≡◌, ◌-◌, ◌⊎◌, ℕ, Bool, true, false, List, [], ◌∷◌, All, Option, codes, IfSome, IsTrue}
use Rattle.crew_io.specs.Io.{HasEnded, Rose}
use Rattle.crew_io.specs.Bytes.{OfBytes}
use Rattle.crew_io.specs.Puts.{TellsWrites}
use Rattle.crew_io.specs.Draws.{TellsReads}
use Rattle.crew_io.specs.declared.sink.Sink.{Ghosts as SinkTells}
use Rattle.crew_io.specs.declared.source.Source.{Ghosts as SourceTells}
use Rattle.dossier_terms.specs.Dossier.{Dossier}
use Rattle.dossier_terms.specs.Accepted.{IsAccepted}
use Rattle.part_texts.specs.Accepted.{AreBundles}
use Rattle.part_texts.specs.Bundle.{Bundle}
use Rattle.parts_command.specs.Says.{SaysYes, SaysNo, SaysFront, SaysReadFault, SaysLines}
use Rattle.bundle_write.specs.declared.piece.Job.{Job}
use Rattle.bundle_write.specs.declared.piece.Job.TheVariants.{Bundle as BundleJob, Count as CountJob, Part as PartJob}
use Rattle.bundle_command.specs.Pieces.{HasNoneOpen}
use Rattle.bundle_command.specs.Says.{SaysYes as SaysWritten, SaysNo as SaysNotWritten, SaysFront as SaysPiecesFront, SaysReadFault as SaysDossiersCutOff}
use Rattle.parts_cli.specs.Status.{is_done}
use Rattle.parts_cli.specs.Words.{IsOnePart, IsParts, part_words, parts_words}
use Rattle.parts_cli.specs.declared.run.Command.{Command}
use Rattle.parts_cli.specs.declared.run.Command.TheVariants.{PartsCheck, PartsCut, Parts, Part}
use Rattle.parts_cli.specs.declared.status.Status.{Status}
use Rattle.parts_cli.specs.declared.status.Status.TheVariants.{Done, No, Words, ReadFault, WriteFault, Memory, Unproved}

-- what a status says of the command `parts-check`; no other status comes
abbrev pub PartsCheckSays : Status → Option (List ℕ) → List ℕ → List ℕ → Type 0
PartsCheckSays Done unseen input written = SaysYes input written
PartsCheckSays No unseen input written = SaysNo input written
PartsCheckSays ReadFault unseen input written = SaysReadFault unseen input written
PartsCheckSays WriteFault unseen input written = SaysFront input written
PartsCheckSays Memory unseen input written = SaysLines input written
PartsCheckSays _ unseen input written = ⊥

-- what a status says of a command that writes a text for each good dossier: done where none of these leaves open whether another plan
-- does more tasks; no other status comes
abbrev pub PiecesSay : Job → Status → Option (List ℕ) → List ℕ → List ℕ → Type 0
PiecesSay job Done unseen input written = SaysWritten job (All HasNoneOpen) input written
PiecesSay job Unproved unseen input written = SaysWritten job (λ pieces. All HasNoneOpen pieces → ⊥) input written
PiecesSay job No unseen input written = SaysNotWritten job input written
PiecesSay job ReadFault unseen input written = SaysDossiersCutOff job unseen input written
PiecesSay job WriteFault unseen input written = SaysPiecesFront job input written
PiecesSay job Memory unseen input written = SaysPiecesFront job input written
PiecesSay job Words unseen input written = ⊥

-- the statuses that a check of bundles can end with
abbrev pub check_ends_with : Status → Bool
check_ends_with Words = false
check_ends_with Unproved = false
check_ends_with _ = true

-- the statuses that such a command can end with
abbrev pub pieces_end_with : Status → Bool
pieces_end_with Words = false
pieces_end_with _ = true

-- the bytes are accepted as some bundles
abbrev pub AreSomeBundles : List ℕ → Type 0
AreSomeBundles input = (bundles : List Bundle) × AreBundles input bundles

-- the bytes are accepted as some dossiers
abbrev pub AreDossiers : List ℕ → Type 0
AreDossiers input = (dossiers : List Dossier) × IsAccepted input dossiers

-- what is promised of a command: the words that ask for it, where its number is in its range; what each status says of the input, of
-- what its source has left, and of what was written; the statuses that it can end with; and the input that it takes to its end
pub record Promises : Type 1 where
  pub words : List (List ℕ)
  pub in_range : Type 0
  pub says : Status → Option (List ℕ) → List ℕ → List ℕ → Type 0
  pub ends_with : Status → Bool
  pub fine : List ℕ → Type 0

-- the command `parts-check`: it takes bytes that are accepted as bundles
abbrev pub of_check : Promises
of_check = record {
  words = codes "parts-check" ∷ [];
  in_range = Unit {0};
  says = PartsCheckSays;
  ends_with = check_ends_with;
  fine = AreSomeBundles;
}

-- a command that writes a text for each good dossier: it takes bytes that are accepted as dossiers
abbrev pub of_pieces : List (List ℕ) → Type 0 → Job → Promises
of_pieces words in_range job = record {
  words = words;
  in_range = in_range;
  says = PiecesSay job;
  ends_with = pieces_end_with;
  fine = AreDossiers;
}

-- the commands, with what is promised of each
abbrev pub promises_of : Command → Promises
promises_of PartsCheck = of_check
promises_of PartsCut = of_pieces (codes "parts-cut" ∷ []) (Unit {0}) CountJob
promises_of (Parts parts) = of_pieces (parts_words parts) (IsParts parts) (BundleJob parts.nodes)
promises_of (Part part) = of_pieces (part_words part) (IsOnePart part) (PartJob part.nodes (part.number - 1))

-- the words ask for the command: they are its words, and its number is in its range
abbrev pub AskFor : Command → List (List ℕ) → Type 0
AskFor command words = (promises_of command).in_range × (words ≡ (promises_of command).words)

-- a call keeps what is promised of a command: what its status says, and what was written whatever the status; that it ends with one
-- of its statuses; that what is done was read to its end; what is told of faults; and that input that is fine is done, or memory was
-- wanting, where no count of faults rose
pub record Answers {S K : Type 0} (source : SourceTells S) (sink : SinkTells K) (promises : Promises) (src later : S) (out new : K) (status : Status) : Type 0 where
  pub says : OfBytes (source.left src) (sink.got out) (sink.got new) (promises.says status (source.left later))
  pub part : OfBytes (source.left src) (sink.got out) (sink.got new) (promises.says WriteFault (source.left later))
  pub ends : IsTrue (promises.ends_with status)
  pub words : status ≡ Words → ⊥
  pub ended : IsTrue (is_done status) → HasEnded (source.left later)
  pub reads : TellsReads source src later (status ≡ ReadFault)
  pub writes : TellsWrites sink out new (status ≡ WriteFault)
  pub complete : IfSome (source.left src) (λ input. promises.fine input
      → (Rose (source.faults src) (source.faults later) → ⊥) → (Rose (sink.faults out) (sink.faults new) → ⊥) → IsTrue (is_done status) ⊎ (status ≡ Memory))
