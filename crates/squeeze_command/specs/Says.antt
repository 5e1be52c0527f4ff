-- what the command `squeeze` says of what it reads and writes
use Rattle.std.specs.Prelude.{◌≡◌, ◌++◌, ℕ, List, Result, [], ◌∷◌, length, take, Option, Some, Ok, IfOk, OnErr}
use Rattle.crew_io.specs.Io.{HasEnded}
use Rattle.crew_io.specs.Bytes.{OfBytes}
use Rattle.crew_io.specs.Lines.{IsPartial}
use Rattle.crew_io.specs.Puts.{TellsWrites}
use Rattle.crew_io.specs.Draws.{TellsReads}
use Rattle.crew_io.specs.declared.sink.Sink.{Ghosts as SinkTells}
use Rattle.crew_io.specs.declared.source.Source.{Ghosts as SourceTells}
use Rattle.dossier_terms.specs.declared.Reason.{Reason}
use Rattle.dossier_terms.specs.Dossier.{Dossier}
use Rattle.dossier_terms.specs.Texts.{no_line}
use Rattle.dossier_terms.specs.Reading.{Reading, Form}
use Rattle.dossier_terms.specs.Accepted.{IsAccepted}
use Rattle.dossier_commands.specs.Input.{IsRefusal, HasRead, room_after, no_front}
use Rattle.dossier_commands.specs.declared.read.Ended.{Ended}
use Rattle.dossier_commands.specs.declared.read.Ended.TheVariants.{Done, No, ReadFault, WriteFault}
use Rattle.sheet_terms.specs.Lines.{text_of_sheet}
use Rattle.sheet_terms.specs.Sheet.{Sheet}
use Rattle.squeeze_command.specs.Sheets.{IsSqueezedSheet, IsTextOfSheets}

-- the input is accepted as these dossiers, whose sheets were written
pub record SaysYes (steps : ℕ) (input written : List ℕ) : Type 0 where
  pub dossiers : List Dossier
  pub accepted : IsAccepted input dossiers
  pub sheets : IsTextOfSheets steps dossiers written

-- the input is accepted as no dossiers; the sheets of those before the first line that is refused were written, and its no line
pub record SaysNo (steps : ℕ) (input written : List ℕ) : Type 0 where
  pub not_accepted : (dossiers : List Dossier) → IsAccepted input dossiers → ⊥
  pub before : List Dossier
  pub number : ℕ
  pub reason : Reason
  pub refusal : IsRefusal no_front input before number reason
  pub text : List ℕ
  pub sheets : IsTextOfSheets steps before text
  pub is : written ≡ text ++ no_line number reason

-- what stands behind whole sheets: nothing, or a front of the sheet or of the no line that is due there
pub data IsSheetFront (steps : ℕ) (input : List ℕ) (dossiers : List Dossier) (part : List ℕ) : Type 0 where
  Nothing : (is : part ≡ []) → IsSheetFront steps input dossiers part
  SheetFront : (d : Dossier) (rest : List ℕ) (read : HasRead no_front input (dossiers ++ d ∷ []) [] rest Form) (s : Sheet)
      (of : IsSqueezedSheet d.instance d.budget steps s) (n : ℕ) (is : part ≡ take n (text_of_sheet s)) → IsSheetFront steps input dossiers part
  NoFront : (number : ℕ) (reason : Reason) (refusal : IsRefusal no_front input dossiers number reason)
      (n : ℕ) (is : part ≡ take n (no_line number reason)) → IsSheetFront steps input dossiers part

-- the sheets of good dossiers with which the input begins were written, and a front of one more
pub record SaysFront (steps : ℕ) (input written : List ℕ) : Type 0 where
  pub dossiers : List Dossier
  pub rest : List ℕ
  pub read : HasRead no_front input dossiers [] rest Form
  pub text : List ℕ
  pub sheets : IsTextOfSheets steps dossiers text
  pub part : List ℕ
  pub next : IsSheetFront steps input dossiers part
  pub is : written ≡ text ++ part

-- the input is what was read and what was not seen: good dossiers, whose sheets were written and nothing else, lines of
-- the next one of which none is refused, and the front of one more line
pub record SaysReadFault (steps : ℕ) (unseen : Option (List ℕ)) (input written : List ℕ) : Type 0 where
  pub dossiers : List Dossier
  pub lines : List (List ℕ)
  pub due : Reading
  pub part : List ℕ
  pub rest : List ℕ
  pub left : unseen ≡ Some rest
  pub read : HasRead no_front input dossiers lines (part ++ rest) due
  pub front : IsPartial (room_after no_front dossiers lines) part (length part)
  pub sheets : IsTextOfSheets steps dossiers written

-- the input begins with good dossiers, whose sheets were written and nothing else
pub record SaysSheets (steps : ℕ) (input written : List ℕ) : Type 0 where
  pub dossiers : List Dossier
  pub rest : List ℕ
  pub read : HasRead no_front input dossiers [] rest Form
  pub sheets : IsTextOfSheets steps dossiers written

-- what each end says of the input, of what its source has left, and of what was written
abbrev pub SaysAt : ℕ → Ended → Option (List ℕ) → List ℕ → List ℕ → Type 0
SaysAt steps Done unseen input written = SaysYes steps input written
SaysAt steps No unseen input written = SaysNo steps input written
SaysAt steps ReadFault unseen input written = SaysReadFault steps unseen input written
SaysAt steps WriteFault unseen input written = SaysFront steps input written

-- the command `squeeze`: what its answer says, what was written whatever the answer, and where memory was wanting; that
-- what is done was read to its end; and what is told of faults
pub record SqueezesDossiers {S K E : Type 0} (source : SourceTells S) (sink : SinkTells K) (steps : ℕ) (src later : S) (out new : K) (result : Result Ended E) : Type 0 where
  pub says : IfOk result (λ ended. OfBytes (source.left src) (sink.got out) (sink.got new) (SaysAt steps ended (source.left later)))
  pub front : OfBytes (source.left src) (sink.got out) (sink.got new) (SaysFront steps)
  pub memory : OnErr result (OfBytes (source.left src) (sink.got out) (sink.got new) (SaysSheets steps))
  pub ended : result ≡ Ok Done → HasEnded (source.left later)
  pub reads : TellsReads source src later (result ≡ Ok ReadFault)
  pub writes : TellsWrites sink out new (result ≡ Ok WriteFault)
