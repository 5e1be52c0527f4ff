-- what the commands that write a text for each dossier say of what they read and write
use Rattle.std.specs.Prelude.{◌≡◌, ◌++◌, ℕ, List, Bool, true, false, Result, [], ◌∷◌, length, take, All, Option, Some, Ok, IfOk}
use Rattle.crew_io.specs.Io.{HasEnded}
use Rattle.crew_io.specs.Bytes.{OfBytes}
use Rattle.crew_io.specs.Lines.{IsPartial}
use Rattle.crew_io.specs.Puts.{TellsWrites}
use Rattle.crew_io.specs.Draws.{TellsReads}
use Rattle.crew_io.specs.declared.sink.Sink.{Ghosts as SinkTells}
use Rattle.crew_io.specs.declared.source.Source.{Ghosts as SourceTells}
use Rattle.dossier_terms.specs.declared.Reason.{Reason}
use Rattle.dossier_terms.specs.Dossier.{Dossier}
use Rattle.dossier_terms.specs.Texts.{no_line}
use Rattle.dossier_terms.specs.Reading.{Reading, Form}
use Rattle.dossier_terms.specs.Accepted.{IsAccepted}
use Rattle.dossier_commands.specs.Input.{IsRefusal, HasRead, room_after, no_front}
use Rattle.bundle_write.specs.Pieces.{IsPieceOf, Piece}
use Rattle.bundle_write.specs.declared.piece.Job.{Job}
use Rattle.bundle_command.specs.Pieces.{AreTexts, HasNoneOpen}
use Rattle.bundle_command.specs.declared.command.PiecesEnded.{PiecesEnded}
use Rattle.bundle_command.specs.declared.command.PiecesEnded.TheVariants.{Proved, Open, No, ReadFault, WriteFault}

-- how it ended where all dossiers are good
abbrev pub ended_where : Bool → PiecesEnded
ended_where true = Proved
ended_where false = Open

-- the input is accepted as dossiers, of which the pieces were written, of which this holds
pub record SaysYes (job : Job) (P : List Piece → Type 0) (input written : List ℕ) : Type 0 where
  pub dossiers : List Dossier
  pub accepted : IsAccepted input dossiers
  pub pieces : List Piece
  pub texts : AreTexts job dossiers pieces written
  pub holds : P pieces

-- the input is accepted as no dossiers; the pieces of those before the first line that is refused were written, and its no line
pub record SaysNo (job : Job) (input written : List ℕ) : Type 0 where
  pub not_accepted : (dossiers : List Dossier) → IsAccepted input dossiers → ⊥
  pub before : List Dossier
  pub number : ℕ
  pub reason : Reason
  pub refusal : IsRefusal no_front input before number reason
  pub pieces : List Piece
  pub text : List ℕ
  pub texts : AreTexts job before pieces text
  pub is : written ≡ text ++ no_line number reason

-- what stands behind whole pieces: nothing, a front of the piece that is due there, or a front of the no line
pub data IsNextFront (job : Job) (input : List ℕ) (dossiers : List Dossier) (part : List ℕ) : Type 0 where
  Nothing : (is : part ≡ []) → IsNextFront job input dossiers part
  PieceFront : (d : Dossier) (rest : List ℕ) (read : HasRead no_front input (dossiers ++ d ∷ []) [] rest Form) (piece : Piece)
      (of : IsPieceOf job d piece) (n : ℕ) (is : part ≡ take n piece.text) → IsNextFront job input dossiers part
  NoFront : (number : ℕ) (reason : Reason) (refusal : IsRefusal no_front input dossiers number reason)
      (n : ℕ) (is : part ≡ take n (no_line number reason)) → IsNextFront job input dossiers part

-- the pieces of good dossiers with which the input begins were written, and a front of what is due behind them
pub record SaysFront (job : Job) (input written : List ℕ) : Type 0 where
  pub dossiers : List Dossier
  pub rest : List ℕ
  pub read : HasRead no_front input dossiers [] rest Form
  pub pieces : List Piece
  pub text : List ℕ
  pub texts : AreTexts job dossiers pieces text
  pub part : List ℕ
  pub next : IsNextFront job input dossiers part
  pub is : written ≡ text ++ part

-- the input is what was read and what was not seen: good dossiers, of which the pieces were written and nothing else, lines of
-- the next one of which none is refused, and the front of one more line
pub record SaysReadFault (job : Job) (unseen : Option (List ℕ)) (input written : List ℕ) : Type 0 where
  pub dossiers : List Dossier
  pub lines : List (List ℕ)
  pub due : Reading
  pub part : List ℕ
  pub rest : List ℕ
  pub left : unseen ≡ Some rest
  pub read : HasRead no_front input dossiers lines (part ++ rest) due
  pub front : IsPartial (room_after no_front dossiers lines) part (length part)
  pub pieces : List Piece
  pub texts : AreTexts job dossiers pieces written

-- what each end says of the input, of what its source has left, and of what was written
abbrev pub SaysAt : Job → PiecesEnded → Option (List ℕ) → List ℕ → List ℕ → Type 0
SaysAt job Proved unseen input written = SaysYes job (All HasNoneOpen) input written
SaysAt job Open unseen input written = SaysYes job (λ pieces. All HasNoneOpen pieces → ⊥) input written
SaysAt job No unseen input written = SaysNo job input written
SaysAt job ReadFault unseen input written = SaysReadFault job unseen input written
SaysAt job WriteFault unseen input written = SaysFront job input written

-- the input was read to its end
abbrev pub IsWhole : PiecesEnded → Type 0
IsWhole Proved = Unit {0}
IsWhole Open = Unit {0}
IsWhole _ = ⊥

-- such a command: what its answer says, and what was written whatever the answer; that good dossiers were read to their
-- end; and what is told of faults
pub record WritesPieces {S K E : Type 0} (source : SourceTells S) (sink : SinkTells K) (job : Job) (src later : S) (out new : K) (result : Result PiecesEnded E) : Type 0 where
  pub says : IfOk result (λ ended. OfBytes (source.left src) (sink.got out) (sink.got new) (SaysAt job ended (source.left later)))
  pub front : OfBytes (source.left src) (sink.got out) (sink.got new) (SaysFront job)
  pub ended : IfOk result (λ ended. IsWhole ended → HasEnded (source.left later))
  pub reads : TellsReads source src later (result ≡ Ok ReadFault)
  pub writes : TellsWrites sink out new (result ≡ Ok WriteFault)
