-- what `explain` says of what it reads and writes
use Rattle.std.specs.Prelude.{◌≡◌, ◌≢◌, ◌≤◌, ◌<◌, ◌++◌, ℕ, List, [], ◌∷◌, length, take, map, Option, Some, None, Bool, true, false, Result, Ok, IfOk, OnErr, All}
use Rattle.crew_terms.specs.declared.TheConstants.{LONGEST_DAY}
use Rattle.crew_io.specs.Io.{Appended, HasEnded}
use Rattle.crew_io.specs.Bytes.{OfBytes}
use Rattle.crew_io.specs.Puts.{TellsWrites}
use Rattle.crew_io.specs.Draws.{TellsReads}
use Rattle.crew_io.specs.declared.sink.Sink.{Ghosts as SinkTells}
use Rattle.crew_io.specs.declared.source.Source.{Ghosts as SourceTells}
use Rattle.day_faults.specs.Days.{StopsFirst, TellsStops, first_stop, stops_of}
use Rattle.day_faults.specs.declared.faults.FaultyRecord.{FaultyRecord}
use Rattle.day_faults.specs.declared.passes.DayFaults.{DayFaults}
use Rattle.day_faults.specs.declared.stops.Stop.{Stop}
use Rattle.day_explain.specs.Telling.{IsOneLine, faults_placed, placed_of}
use Rattle.day_explain.specs.Text.{explanation, long_text}
use Rattle.day_explain.specs.declared.read.Ended.{Ended}
use Rattle.day_explain.specs.declared.read.Ended.TheVariants.{Fine, Wrong, ReadFault, WriteFault}
use Rattle.day_explain.specs.declared.told.Told.{Told}

-- these are the faults of a day's text, and each of them is told in one line
pub record AreTold (text : List ℕ) (faults : DayFaults) (told : List Told) : Type 0 where
  pub tells : TellsStops text (stops_of faults.records.items)
  pub first : StopsFirst text (first_stop (stops_of faults.records.items))
  pub each : map placed_of told ≡ faults_placed faults.records.items
  pub lines : All IsOneLine told

-- no record of the day is refused, and that was written
pub record SaysFine (input written : List ℕ) : Type 0 where
  pub within : length input ≤ LONGEST_DAY
  pub faults : DayFaults
  pub told : List Told
  pub are : AreTold input faults told
  pub none : faults.records.items ≡ []
  pub text : written ≡ explanation faults told

-- the day is too long, or some of its records are refused, and what is told of that was written
pub data SaysWrong (input written : List ℕ) : Type 0 where
  IsTooLong : (more : LONGEST_DAY < length input) (text : written ≡ long_text) → SaysWrong input written
  HasFaults : (within : length input ≤ LONGEST_DAY) (faults : DayFaults) (told : List Told) (are : AreTold input faults told)
      (some : faults.records.items ≢ []) (text : written ≡ explanation faults told) → SaysWrong input written

-- nothing was written, or a front of what is told of the day
pub data SaysFront (input written : List ℕ) : Type 0 where
  OfNothing : (none : written ≡ []) → SaysFront input written
  OfFine : (output : List ℕ) (says : SaysFine input output) (n : ℕ) (front : written ≡ take n output) → SaysFront input written
  OfWrong : (output : List ℕ) (says : SaysWrong input output) (n : ℕ) (front : written ≡ take n output) → SaysFront input written

-- nothing was written; the input is what was read, no longer than a day may be, and what was not seen
pub record SaysNothingRead (unseen : Option (List ℕ)) (input written : List ℕ) : Type 0 where
  pub none : written ≡ []
  pub read : List ℕ
  pub within : length read ≤ LONGEST_DAY
  pub rest : List ℕ
  pub left : unseen ≡ Some rest
  pub parts : input ≡ read ++ rest

-- what each end says of the input, of what its source has left, and of what was written
abbrev pub SaysAt : Ended → Option (List ℕ) → List ℕ → List ℕ → Type 0
SaysAt Fine unseen input written = SaysFine input written
SaysAt Wrong unseen input written = SaysWrong input written
SaysAt ReadFault unseen input written = SaysNothingRead unseen input written
SaysAt WriteFault unseen input written = SaysFront input written

-- how it ends where these faulty records were told
abbrev pub end_of : List FaultyRecord → Ended
end_of [] = Fine
end_of (r ∷ rs) = Wrong

-- a text with nothing wrong: no longer than a day's may be, and the commands over a day stop at none of its records
abbrev pub IsFineText : List ℕ → Type 0
IsFineText input = (length input ≤ LONGEST_DAY) × ((stop : Option Stop) → StopsFirst input stop → stop ≡ None)

-- what was written, and its fact
abbrev pub Wrote : Option (List ℕ) → Option (List ℕ) → (List ℕ → Type 0) → Type 0
Wrote got later Fact = (written : List ℕ) × Appended got later written × Fact written

-- the ends of a text that was read
abbrev pub is_of_text : Ended → Bool
is_of_text ReadFault = false
is_of_text _ = true

-- the ends of a text that is too long
abbrev pub is_wrong_or_write_fault : Ended → Bool
is_wrong_or_write_fault Wrong = true
is_wrong_or_write_fault WriteFault = true
is_wrong_or_write_fault _ = false

-- what the call's answer says, and that nothing was written where memory was wanting; that the input was read to its end where nothing is
-- wrong; and what is told of faults
pub record ReadsDay {S K E : Type 0} (source : SourceTells S) (sink : SinkTells K) (src later : S) (out new : K) (result : Result Ended E) : Type 0 where
  pub says : IfOk result (λ ended. OfBytes (source.left src) (sink.got out) (sink.got new) (SaysAt ended (source.left later)))
  pub memory : OnErr result (OfBytes (source.left src) (sink.got out) (sink.got new) (λ input written. written ≡ []))
  pub ended : result ≡ Ok Fine → HasEnded (source.left later)
  pub reads : TellsReads source src later (result ≡ Ok ReadFault)
  pub writes : TellsWrites sink out new (result ≡ Ok WriteFault)
