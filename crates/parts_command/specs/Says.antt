-- what the command `parts-check` says of what it reads and writes
use Rattle.std.specs.Prelude.{◌≡◌, ◌++◌, ℕ, List, Result, [], ◌∷◌, take, Option, Ok, IfOk, OnErr, All}
use Rattle.std.specs.List.{flat_map}
use Rattle.crew_io.specs.Io.{HasEnded}
use Rattle.crew_io.specs.Bytes.{OfBytes}
use Rattle.crew_io.specs.Puts.{TellsWrites}
use Rattle.crew_io.specs.Draws.{TellsReads}
use Rattle.crew_io.specs.declared.sink.Sink.{Ghosts as SinkTells}
use Rattle.crew_io.specs.declared.source.Source.{Ghosts as SourceTells}
use Rattle.dossier_commands.specs.declared.read.Ended.{Ended}
use Rattle.dossier_commands.specs.declared.read.Ended.TheVariants.{Done, No, ReadFault, WriteFault}
use Rattle.part_texts.specs.Accepted.{AreBundles}
use Rattle.part_texts.specs.Bundle.{Bundle, IsTrueBundle}
use Rattle.part_texts.specs.Lines.{yes_text}
use Rattle.parts_reader.specs.declared.reason.BundleReason.{BundleReason}
use Rattle.parts_reader.specs.Input.{Fresh, HasBegun, IsInterrupted, IsRefusal}
use Rattle.parts_command.specs.Texts.{no_bundle_line}

-- the input is accepted as these bundles, whose yes lines were written, each of which is true
pub record SaysYes (input written : List ℕ) : Type 0 where
  pub bundles : List Bundle
  pub accepted : AreBundles input bundles
  pub texts : written ≡ flat_map yes_text bundles
  pub each : All IsTrueBundle bundles

-- the input is accepted as no bundles; the yes lines of those before the first line that is refused were written, and its no line
pub record SaysNo (input written : List ℕ) : Type 0 where
  pub not_accepted : (bundles : List Bundle) → AreBundles input bundles → ⊥
  pub before : List Bundle
  pub number : ℕ
  pub reason : BundleReason
  pub refusal : IsRefusal input before number reason
  pub texts : written ≡ flat_map yes_text before ++ no_bundle_line number reason
  pub each : All IsTrueBundle before

-- what stands behind whole lines: nothing, or a front of the yes line or of the no line that is due there
pub data IsLineFront (input : List ℕ) (bundles : List Bundle) (part : List ℕ) : Type 0 where
  Nothing : (is : part ≡ []) → IsLineFront input bundles part
  YesFront : (b : Bundle) (rest : List ℕ) (read : HasBegun input (bundles ++ b ∷ []) Fresh rest) (true_yes : IsTrueBundle b)
      (n : ℕ) (is : part ≡ take n (yes_text b)) → IsLineFront input bundles part
  NoFront : (number : ℕ) (reason : BundleReason) (refusal : IsRefusal input bundles number reason)
      (n : ℕ) (is : part ≡ take n (no_bundle_line number reason)) → IsLineFront input bundles part

-- the yes lines of bundles with which the input begins were written, each of which is true, and a front of one more line
pub record SaysFront (input written : List ℕ) : Type 0 where
  pub bundles : List Bundle
  pub rest : List ℕ
  pub read : HasBegun input bundles Fresh rest
  pub each : All IsTrueBundle bundles
  pub part : List ℕ
  pub texts : written ≡ flat_map yes_text bundles ++ part
  pub next : IsLineFront input bundles part

-- the input is what was read and what was not seen: good bundles, whose yes lines were written and nothing else, what was read of the
-- next one, of which no line is refused, and the front of one more line
pub record SaysReadFault (unseen : Option (List ℕ)) (input written : List ℕ) : Type 0 where
  pub bundles : List Bundle
  pub read : IsInterrupted input bundles unseen
  pub texts : written ≡ flat_map yes_text bundles
  pub each : All IsTrueBundle bundles

-- the input begins with good bundles, whose yes lines were written and nothing else
pub record SaysLines (input written : List ℕ) : Type 0 where
  pub bundles : List Bundle
  pub rest : List ℕ
  pub read : HasBegun input bundles Fresh rest
  pub texts : written ≡ flat_map yes_text bundles
  pub each : All IsTrueBundle bundles

-- what each end says of the input, of what its source has left, and of what was written
abbrev pub SaysAt : Ended → Option (List ℕ) → List ℕ → List ℕ → Type 0
SaysAt Done unseen input written = SaysYes input written
SaysAt No unseen input written = SaysNo input written
SaysAt ReadFault unseen input written = SaysReadFault unseen input written
SaysAt WriteFault unseen input written = SaysFront input written

-- the command `parts-check`: what its answer says, what was written whatever the answer, and where memory was wanting; that what is
-- done was read to its end; and what is told of faults
pub record ReadsBundles {S K E : Type 0} (source : SourceTells S) (sink : SinkTells K) (src later : S) (out new : K) (result : Result Ended E) : Type 0 where
  pub says : IfOk result (λ ended. OfBytes (source.left src) (sink.got out) (sink.got new) (SaysAt ended (source.left later)))
  pub front : OfBytes (source.left src) (sink.got out) (sink.got new) SaysFront
  pub memory : OnErr result (OfBytes (source.left src) (sink.got out) (sink.got new) SaysLines)
  pub ended : result ≡ Ok Done → HasEnded (source.left later)
  pub reads : TellsReads source src later (result ≡ Ok ReadFault)
  pub writes : TellsWrites sink out new (result ≡ Ok WriteFault)
