-- what a command over dossiers says of what it reads and writes, where a text is written for each good one
use Rattle.std.specs.Prelude.{◌≡◌, ◌++◌, ℕ, List, Result, [], ◌∷◌, length, take, Option, Some, Ok, IfOk, OnErr, All}
use Rattle.std.specs.List.{flat_map}
use Rattle.crew_io.specs.Io.{HasEnded}
use Rattle.crew_io.specs.Bytes.{OfBytes}
use Rattle.crew_io.specs.Lines.{IsPartial}
use Rattle.crew_io.specs.Puts.{TellsWrites}
use Rattle.crew_io.specs.Draws.{TellsReads}
use Rattle.crew_io.specs.declared.sink.Sink.{Ghosts as SinkTells}
use Rattle.crew_io.specs.declared.source.Source.{Ghosts as SourceTells}
use Rattle.dossier_terms.specs.declared.Reason.{Reason}
use Rattle.dossier_terms.specs.Dossier.{Dossier}
use Rattle.dossier_terms.specs.Texts.{no_line}
use Rattle.dossier_terms.specs.Reading.{Reading, Form}
use Rattle.dossier_terms.specs.Accepted.{IsAccepted}
use Rattle.cert_checker.specs.Checked.{IsTrueYes}
use Rattle.dossier_commands.specs.Input.{IsRefusal, HasRead, room_after, no_front}
use Rattle.dossier_commands.specs.declared.read.Ended.{Ended}
use Rattle.dossier_commands.specs.declared.read.Ended.TheVariants.{Done, No, ReadFault, WriteFault}

-- the input is accepted as these dossiers, whose texts were written
pub record SaysYes (text : Dossier → List ℕ) (input written : List ℕ) : Type 0 where
  pub dossiers : List Dossier
  pub accepted : IsAccepted input dossiers
  pub texts : written ≡ flat_map text dossiers
  pub each : All IsTrueYes dossiers

-- the input is accepted as no dossiers; the texts of those before the first line that is refused were written, and its
-- no line
pub record SaysNo (text : Dossier → List ℕ) (input written : List ℕ) : Type 0 where
  pub not_accepted : (dossiers : List Dossier) → IsAccepted input dossiers → ⊥
  pub before : List Dossier
  pub number : ℕ
  pub reason : Reason
  pub refusal : IsRefusal no_front input before number reason
  pub texts : written ≡ flat_map text before ++ no_line number reason
  pub each : All IsTrueYes before

-- what stands behind whole texts: nothing, or a front of the text or of the no line that is due there
pub data IsTextFront (text : Dossier → List ℕ) (input : List ℕ) (dossiers : List Dossier) (part : List ℕ) : Type 0 where
  Nothing : (is : part ≡ []) → IsTextFront text input dossiers part
  GoodFront : (d : Dossier) (rest : List ℕ) (read : HasRead no_front input (dossiers ++ d ∷ []) [] rest Form) (true_yes : IsTrueYes d)
      (n : ℕ) (is : part ≡ take n (text d)) → IsTextFront text input dossiers part
  NoFront : (number : ℕ) (reason : Reason) (refusal : IsRefusal no_front input dossiers number reason)
      (n : ℕ) (is : part ≡ take n (no_line number reason)) → IsTextFront text input dossiers part

-- the texts of dossiers with which the input begins were written, each of which is true, and a front of one more
pub record SaysFront (text : Dossier → List ℕ) (input written : List ℕ) : Type 0 where
  pub dossiers : List Dossier
  pub rest : List ℕ
  pub read : HasRead no_front input dossiers [] rest Form
  pub each : All IsTrueYes dossiers
  pub part : List ℕ
  pub texts : written ≡ flat_map text dossiers ++ part
  pub next : IsTextFront text input dossiers part

-- the input is what was read and what was not seen: good dossiers, whose texts were written and nothing else, lines of
-- the next one of which none is refused, and the front of one more line
pub record SaysReadFault (text : Dossier → List ℕ) (unseen : Option (List ℕ)) (input written : List ℕ) : Type 0 where
  pub dossiers : List Dossier
  pub lines : List (List ℕ)
  pub due : Reading
  pub part : List ℕ
  pub rest : List ℕ
  pub left : unseen ≡ Some rest
  pub read : HasRead no_front input dossiers lines (part ++ rest) due
  pub front : IsPartial (room_after no_front dossiers lines) part (length part)
  pub texts : written ≡ flat_map text dossiers
  pub each : All IsTrueYes dossiers

-- the input begins with good dossiers, whose texts were written and nothing else
pub record SaysTexts (text : Dossier → List ℕ) (input written : List ℕ) : Type 0 where
  pub dossiers : List Dossier
  pub rest : List ℕ
  pub read : HasRead no_front input dossiers [] rest Form
  pub texts : written ≡ flat_map text dossiers
  pub each : All IsTrueYes dossiers

-- what each end says of the input, of what its source has left, and of what was written
abbrev pub SaysAt : (Dossier → List ℕ) → Ended → Option (List ℕ) → List ℕ → List ℕ → Type 0
SaysAt text Done unseen input written = SaysYes text input written
SaysAt text No unseen input written = SaysNo text input written
SaysAt text ReadFault unseen input written = SaysReadFault text unseen input written
SaysAt text WriteFault unseen input written = SaysFront text input written

-- a command over dossiers, which writes this text for each good one: what its answer says, what was written whatever
-- the answer, and where memory was wanting; that what is done was read to its end; and what is told of faults
pub record ReadsDossiers {S K E : Type 0} (source : SourceTells S) (sink : SinkTells K) (text : Dossier → List ℕ) (src later : S) (out new : K) (result : Result Ended E) : Type 0 where
  pub says : IfOk result (λ ended. OfBytes (source.left src) (sink.got out) (sink.got new) (SaysAt text ended (source.left later)))
  pub front : OfBytes (source.left src) (sink.got out) (sink.got new) (SaysFront text)
  pub memory : OnErr result (OfBytes (source.left src) (sink.got out) (sink.got new) (SaysTexts text))
  pub ended : result ≡ Ok Done → HasEnded (source.left later)
  pub reads : TellsReads source src later (result ≡ Ok ReadFault)
  pub writes : TellsWrites sink out new (result ≡ Ok WriteFault)
