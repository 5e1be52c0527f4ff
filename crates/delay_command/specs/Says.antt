-- what the command `delays` says of what it reads and writes
use Rattle.std.specs.Prelude.{◌≡◌, ◌++◌, ℕ, List, [], ◌⊎◌, Option, Result, Ok, IfOk, OnErr, IsErr, take}
use Rattle.crew_io.specs.Bytes.{OfBytes}
use Rattle.crew_io.specs.Draws.{TellsReads}
use Rattle.crew_io.specs.Io.{Appended, AppendedPart, HasEnded}
use Rattle.crew_io.specs.Puts.{TellsWrites}
use Rattle.crew_io.specs.declared.sink.Sink.{Ghosts as SinkTells}
use Rattle.crew_io.specs.declared.source.Source.{Ghosts as SourceTells}
use Rattle.cert_checker.specs.Checked.{IsTrueYes}
use Rattle.dossier_terms.specs.declared.Reason.{Reason}
use Rattle.dossier_terms.specs.Dossier.{Dossier}
use Rattle.dossier_terms.specs.Texts.{no_line}
use Rattle.dossier_commands.specs.declared.read.Ended.{Ended}
use Rattle.dossier_commands.specs.declared.read.Ended.TheVariants.{Done, No, ReadFault, WriteFault}
use Rattle.late_lines.specs.declared.first_line.LateLine.{LateLine}
use Rattle.late_lines.specs.declared.halt.Halt.{Halt}
use Rattle.late_lines.specs.declared.halt.Halt.TheVariants as halts
use Rattle.delay_command.specs.Delays.{IsDelays, IsDelaysRefusal, IsDelaysText}
use Rattle.delay_command.specs.Halts.{IsCutOff}

-- the input has the form, and its text was written
pub record SaysDelays (input written : List ℕ) : Type 0 where
  pub lines : List LateLine
  pub dossier : Dossier
  pub form : IsDelays input lines dossier
  pub true_yes : IsTrueYes dossier
  pub text : IsDelaysText lines dossier written

-- the input has no such form, and the no line of the first line that is refused was written
pub record SaysRefused (input written : List ℕ) : Type 0 where
  pub no_form : (lines : List LateLine) (d : Dossier) → IsDelays input lines d → ⊥
  pub number : ℕ
  pub reason : Reason
  pub refusal : IsDelaysRefusal input number reason
  pub text : written ≡ no_line number reason

-- nothing was written, and no line that was read is refused; the input is what was read and what was not seen
pub record SaysCutOff (unseen : Option (List ℕ)) (input written : List ℕ) : Type 0 where
  pub none : written ≡ []
  pub read : IsCutOff input unseen

-- nothing was written, or a front of the text or of the no line
pub data SaysFront (input written : List ℕ) : Type 0 where
  Nothing : (none : written ≡ []) → SaysFront input written
  OfText : (text : List ℕ) (says : SaysDelays input text) (n : ℕ) (front : written ≡ take n text) → SaysFront input written
  OfRefusal : (text : List ℕ) (says : SaysRefused input text) (n : ℕ) (front : written ≡ take n text) → SaysFront input written

-- nothing was written
abbrev pub SaysNothing : List ℕ → List ℕ → Type 0
SaysNothing input written = written ≡ []

-- what each end says of the input, of what its source has left, and of what was written
abbrev pub SaysAt : Ended → Option (List ℕ) → List ℕ → List ℕ → Type 0
SaysAt Done unseen input written = SaysDelays input written
SaysAt No unseen input written = SaysRefused input written
SaysAt ReadFault unseen input written = SaysCutOff unseen input written
SaysAt WriteFault unseen input written = SaysFront input written

-- of each input of which this holds, the fact of it and of what was written, which is what the sink got
abbrev pub OfEach : (List ℕ → Type 0) → Option (List ℕ) → Option (List ℕ) → (List ℕ → List ℕ → Type 0) → Type 0
OfEach Holds got later Fact = (input : List ℕ) → Holds input → (written : List ℕ) × Appended got later written × Fact input written

-- the same of a command whose input is one of which this holds
pub record TellsOf {S K E : Type 0} (source : SourceTells S) (sink : SinkTells K) (Holds : List ℕ → Type 0) (src later : S) (out new : K) (result : Result Ended E) : Type 0 where
  pub says : IfOk result (λ ended. OfEach Holds (sink.got out) (sink.got new) (SaysAt ended (source.left later)))
  pub front : OfEach Holds (sink.got out) (sink.got new) SaysFront
  pub memory : OnErr result (OfEach Holds (sink.got out) (sink.got new) SaysNothing)
  pub ended : result ≡ Ok Done → HasEnded (source.left later)
  pub reads : TellsReads source src later (result ≡ Ok ReadFault)
  pub writes : TellsWrites sink out new (result ≡ Ok WriteFault)

-- the command `delays`: what its answer says, what was written whatever the answer, and where memory was wanting; that what is
-- done was read to its end; and what is told of faults
pub record TellsDelays {S K E : Type 0} (source : SourceTells S) (sink : SinkTells K) (src later : S) (out new : K) (result : Result Ended E) : Type 0 where
  pub says : IfOk result (λ ended. OfBytes (source.left src) (sink.got out) (sink.got new) (SaysAt ended (source.left later)))
  pub front : OfBytes (source.left src) (sink.got out) (sink.got new) SaysFront
  pub memory : OnErr result (OfBytes (source.left src) (sink.got out) (sink.got new) SaysNothing)
  pub ended : result ≡ Ok Done → HasEnded (source.left later)
  pub reads : TellsReads source src later (result ≡ Ok ReadFault)
  pub writes : TellsWrites sink out new (result ≡ Ok WriteFault)

-- a call that writes this text and ends so, or where a write fails a front of it
pub record PutsEnd {K E : Type 0} (sink : SinkTells K) (text : List ℕ) (ended : Ended) (out new : K) (result : Result Ended E) : Type 0 where
  pub answer : (result ≡ Ok ended) ⊎ (result ≡ Ok WriteFault)
  pub all : result ≡ Ok ended → Appended (sink.got out) (sink.got new) text
  pub part : AppendedPart (sink.got out) (sink.got new) text
  pub writes : TellsWrites sink out new (result ≡ Ok WriteFault)

-- a call that tells why a reading went no further, by a no line if a line is refused
abbrev pub PutsHalt : {K E : Type 0} → SinkTells K → Halt → K → K → Result Ended E → Type 0
PutsHalt sink (halts.No number reason) out new result = PutsEnd sink (no_line number reason) No out new result
PutsHalt sink halts.ReadFault out new result = (new ≡ out) × (result ≡ Ok ReadFault)
PutsHalt sink halts.OutOfMemory out new result = (new ≡ out) × IsErr result
