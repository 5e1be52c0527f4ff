-- what a trial says of what it writes
use Rattle.std.specs.Prelude.{◌≡◌, ℕ, Bool, true, false, List, [], take, Result, Ok, Err, IfOk, OnErr}
use Rattle.crew_io.specs.Puts.{TellsWrites}
use Rattle.crew_io.specs.declared.sink.Sink.{Ghosts as SinkTells}
use Rattle.dossier_terms.specs.Dossier.{Dossier}
use Rattle.day_commands.specs.Dossiers.{IsProved, IsUnproved}
use Rattle.day_commands.specs.Taken.{Wrote}
use Rattle.trial_command.specs.Trials.{IsTrialDossier, trial_line}
use Rattle.trial_command.specs.declared.trial.TrialEnded.{TrialEnded}
use Rattle.trial_command.specs.declared.trial.TrialEnded.TheVariants.{Done, Unproved, WriteFault}
use Rattle.trial_command.specs.declared.words.Trial.{Trial}

-- the line of a dossier of the trial was written, which meets this
pub record SaysLine (t : Trial) (Fact : Dossier → Type 0) (written : List ℕ) : Type 0 where
  pub dossier : Dossier
  pub allowed : IsTrialDossier t dossier
  pub fact : Fact dossier
  pub line : written ≡ trial_line t dossier

-- nothing was written, or a front of the line of a dossier of the trial
pub data SaysLineFront (t : Trial) (written : List ℕ) : Type 0 where
  Nothing : (none : written ≡ []) → SaysLineFront t written
  OfLine : (dossier : Dossier) (allowed : IsTrialDossier t dossier) (n : ℕ) (front : written ≡ take n (trial_line t dossier)) → SaysLineFront t written

-- what each end says of what was written
abbrev pub SaysAt : Trial → TrialEnded → List ℕ → Type 0
SaysAt t Done written = SaysLine t IsProved written
SaysAt t Unproved written = SaysLine t IsUnproved written
SaysAt t WriteFault written = SaysLineFront t written

-- the end of a trial whose line was written so, and whose dossier is proved or not
abbrev pub end_of : {T E : Type 0} → Result T E → Bool → TrialEnded
end_of (Err fault) proved = WriteFault
end_of (Ok x) true = Done
end_of (Ok x) false = Unproved

-- a trial: what its answer says of what was written; that nothing was where memory was wanting; and what is told of faults
pub record RunsTrial {K E : Type 0} (sink : SinkTells K) (t : Trial) (out new : K) (result : Result TrialEnded E) : Type 0 where
  pub says : IfOk result (λ ended. Wrote (sink.got out) (sink.got new) (SaysAt t ended))
  pub memory : OnErr result (sink.got new ≡ sink.got out)
  pub writes : TellsWrites sink out new (result ≡ Ok WriteFault)
