-- what the command `squeeze-check` says of what it reads and writes
use Rattle.std.specs.Prelude.{◌≡◌, ◌++◌, ℕ, List, Result, [], ◌∷◌, length, take, Option, Some, Ok, IfOk, OnErr, All}
use Rattle.std.specs.List.{flat_map}
use Rattle.crew_io.specs.Io.{HasEnded}
use Rattle.crew_io.specs.Bytes.{OfBytes}
use Rattle.crew_io.specs.Lines.{IsPartial}
use Rattle.crew_io.specs.Puts.{TellsWrites}
use Rattle.crew_io.specs.Draws.{TellsReads}
use Rattle.crew_io.specs.declared.sink.Sink.{Ghosts as SinkTells}
use Rattle.crew_io.specs.declared.source.Source.{Ghosts as SourceTells}
use Rattle.dossier_terms.specs.declared.Reason.{Reason}
use Rattle.dossier_terms.specs.Texts.{no_line}
use Rattle.dossier_commands.specs.declared.read.Ended.{Ended}
use Rattle.dossier_commands.specs.declared.read.Ended.TheVariants.{Done, No, ReadFault, WriteFault}
use Rattle.sheet_terms.specs.Lines.{yes_bound_line}
use Rattle.sheet_terms.specs.Reading.{SheetReading, First}
use Rattle.sheet_terms.specs.Sheet.{Sheet}
use Rattle.sheet_texts.specs.Accepted.{AreAcceptedSheets}
use Rattle.sheet_commands.specs.Input.{IsRefusal, IsTrueSheet, HasRead, room_after}

-- the yes line of a sheet
abbrev pub yes_of : Sheet → List ℕ
yes_of s = yes_bound_line s.bound

-- the input is accepted as these sheets, whose yes lines were written, each of which is true
pub record SaysYes (input written : List ℕ) : Type 0 where
  pub sheets : List Sheet
  pub accepted : AreAcceptedSheets input sheets
  pub texts : written ≡ flat_map yes_of sheets
  pub each : All IsTrueSheet sheets

-- the input is accepted as no sheets; the yes lines of those before the first line that is refused were written, and its no line
pub record SaysNo (input written : List ℕ) : Type 0 where
  pub not_accepted : (sheets : List Sheet) → AreAcceptedSheets input sheets → ⊥
  pub before : List Sheet
  pub number : ℕ
  pub reason : Reason
  pub refusal : IsRefusal input before number reason
  pub texts : written ≡ flat_map yes_of before ++ no_line number reason
  pub each : All IsTrueSheet before

-- what stands behind whole lines: nothing, or a front of the yes line or of the no line that is due there
pub data IsLineFront (input : List ℕ) (sheets : List Sheet) (part : List ℕ) : Type 0 where
  Nothing : (is : part ≡ []) → IsLineFront input sheets part
  YesFront : (s : Sheet) (rest : List ℕ) (read : HasRead input (sheets ++ s ∷ []) [] rest First) (true_yes : IsTrueSheet s)
      (n : ℕ) (is : part ≡ take n (yes_of s)) → IsLineFront input sheets part
  NoFront : (number : ℕ) (reason : Reason) (refusal : IsRefusal input sheets number reason)
      (n : ℕ) (is : part ≡ take n (no_line number reason)) → IsLineFront input sheets part

-- the yes lines of sheets with which the input begins were written, each of which is true, and a front of one more line
pub record SaysFront (input written : List ℕ) : Type 0 where
  pub sheets : List Sheet
  pub rest : List ℕ
  pub read : HasRead input sheets [] rest First
  pub each : All IsTrueSheet sheets
  pub part : List ℕ
  pub texts : written ≡ flat_map yes_of sheets ++ part
  pub next : IsLineFront input sheets part

-- the input is what was read and what was not seen: good sheets, whose yes lines were written and nothing else, lines of the next
-- one of which none is refused, and the front of one more line
pub record SaysReadFault (unseen : Option (List ℕ)) (input written : List ℕ) : Type 0 where
  pub sheets : List Sheet
  pub lines : List (List ℕ)
  pub due : SheetReading
  pub part : List ℕ
  pub rest : List ℕ
  pub left : unseen ≡ Some rest
  pub read : HasRead input sheets lines (part ++ rest) due
  pub front : IsPartial (room_after sheets lines) part (length part)
  pub texts : written ≡ flat_map yes_of sheets
  pub each : All IsTrueSheet sheets

-- the input begins with good sheets, whose yes lines were written and nothing else
pub record SaysLines (input written : List ℕ) : Type 0 where
  pub sheets : List Sheet
  pub rest : List ℕ
  pub read : HasRead input sheets [] rest First
  pub texts : written ≡ flat_map yes_of sheets
  pub each : All IsTrueSheet sheets

-- what each end says of the input, of what its source has left, and of what was written
abbrev pub SaysAt : Ended → Option (List ℕ) → List ℕ → List ℕ → Type 0
SaysAt Done unseen input written = SaysYes input written
SaysAt No unseen input written = SaysNo input written
SaysAt ReadFault unseen input written = SaysReadFault unseen input written
SaysAt WriteFault unseen input written = SaysFront input written

-- the command `squeeze-check`: what its answer says, what was written whatever the answer, and where memory was wanting; that
-- what is done was read to its end; and what is told of faults
pub record ReadsSheets {S K E : Type 0} (source : SourceTells S) (sink : SinkTells K) (src later : S) (out new : K) (result : Result Ended E) : Type 0 where
  pub says : IfOk result (λ ended. OfBytes (source.left src) (sink.got out) (sink.got new) (SaysAt ended (source.left later)))
  pub front : OfBytes (source.left src) (sink.got out) (sink.got new) SaysFront
  pub memory : OnErr result (OfBytes (source.left src) (sink.got out) (sink.got new) SaysLines)
  pub ended : result ≡ Ok Done → HasEnded (source.left later)
  pub reads : TellsReads source src later (result ≡ Ok ReadFault)
  pub writes : TellsWrites sink out new (result ≡ Ok WriteFault)
