-- what the program writes for what it reads, command by command
use Rattle.std.specs.Prelude.{◌≡◌, ◌⊎◌, ℕ, Bool, true, false, List, [], ◌∷◌, Option, IfSome, IsTrue, codes}
use Rattle.crew_io.specs.Io.{Rose, HasEnded}
use Rattle.crew_io.specs.Bytes.{OfBytes}
use Rattle.crew_io.specs.Puts.{TellsWrites}
use Rattle.crew_io.specs.Draws.{TellsReads}
use Rattle.crew_io.specs.declared.sink.Sink.{Ghosts as SinkTells}
use Rattle.crew_io.specs.declared.source.Source.{Ghosts as SourceTells}
use Rattle.dossier_terms.specs.Dossier.{Dossier}
use Rattle.dossier_terms.specs.Texts.{yes_line}
use Rattle.dossier_terms.specs.Accepted.{IsAccepted}
use Rattle.dossier_commands.specs.Outputs.{roster_of, why_of}
use Rattle.dossier_commands.specs.Says.{SaysYes, SaysNo, SaysFront, SaysReadFault, SaysTexts}
use Rattle.late_lines.specs.declared.first_line.LateLine.{LateLine}
use Rattle.delay_command.specs.Delays.{IsDelays}
use Rattle.delay_command.specs.Says.{SaysCutOff, SaysDelays, SaysRefused, SaysNothing, SaysFront as SaysDelaysFront}
use Rattle.day_commands.specs.Rounds.{IsFineDay, SaysRounds, IsRefusedOutput, SaysOutputPart, SaysFirstRounds, SaysNothingRead, change_stop}
use Rattle.day_commands.specs.Outputs.{MayHave, TextsOf, ProvedOf, UnprovedOf, are_dossiers}
use Rattle.day_commands.specs.declared.ended.DayOutput.{DayOutput}
use Rattle.day_commands.specs.declared.ended.DayOutput.TheVariants.{Instances, Dossiers}
use Rattle.day_commands.specs.Dossiers.{IsProved, IsUnproved}
use Rattle.squeeze_command.specs.Says.{SaysYes as SaysSqueezed, SaysNo as SaysNotSqueezed, SaysFront as SaysSheetsFront, SaysReadFault as SaysSqueezeCutOff, SaysSheets}
use Rattle.squeeze_command.specs.Words.{IsSqueeze, squeeze_words}
use Rattle.squeeze_command.specs.declared.words.Squeeze.{Squeeze as SqueezeWords}
use Rattle.sheet_terms.specs.Sheet.{Sheet}
use Rattle.sheet_texts.specs.Accepted.{AreAcceptedSheets}
use Rattle.sheet_commands.specs.Says.{SaysYes as SaysBounds, SaysNo as SaysNoSheets, SaysFront as SaysBoundsFront, SaysReadFault as SaysSheetsCutOff, SaysLines}
use Rattle.audit_command.specs.Events.{IsFineAudit}
use Rattle.audit_command.specs.Says.{SaysEvent, SaysFront as SaysEventFront, SaysNothing as SaysNoEvent}
use Rattle.audit_command.specs.declared.ended.Ended.TheVariants as audit
use Rattle.trial_command.specs.Trials.{IsTrial, trial_words}
use Rattle.trial_command.specs.Says.{SaysLine, SaysLineFront}
use Rattle.trial_command.specs.declared.words.Trial.{Trial as TrialWords}
use Rattle.crew_cli.specs.Status.{is_done}
use Rattle.crew_cli.specs.declared.run.Command.{Command}
use Rattle.crew_cli.specs.declared.run.Command.TheVariants.{Check, Rosters, Why, Delays, Squeeze, SqueezeCheck, Apply, Day, Audit, Trial}
use Rattle.crew_cli.specs.declared.status.Status.{Status}
use Rattle.crew_cli.specs.declared.status.Status.TheVariants.{Done, No, Words, Refused, ReadFault, WriteFault, Memory, Unproved}

-- what a status says of a command over dossiers, which writes this text for each good one; no other status comes
abbrev pub DossiersSay : (Dossier → List ℕ) → Status → Option (List ℕ) → List ℕ → List ℕ → Type 0
DossiersSay text Done unseen input written = SaysYes text input written
DossiersSay text No unseen input written = SaysNo text input written
DossiersSay text ReadFault unseen input written = SaysReadFault text unseen input written
DossiersSay text WriteFault unseen input written = SaysFront text input written
DossiersSay text Memory unseen input written = SaysTexts text input written
DossiersSay text _ unseen input written = ⊥

-- what a status says of the command `delays`; no other status comes
abbrev pub DelaysSay : Status → Option (List ℕ) → List ℕ → List ℕ → Type 0
DelaysSay Done unseen input written = SaysDelays input written
DelaysSay No unseen input written = SaysRefused input written
DelaysSay ReadFault unseen input written = SaysCutOff unseen input written
DelaysSay WriteFault unseen input written = SaysDelaysFront input written
DelaysSay Memory unseen input written = SaysNothing input written
DelaysSay _ unseen input written = ⊥

-- what a status says of the command `squeeze`, which writes the sheet of so many steps for each good dossier; no other status comes
abbrev pub SqueezeSays : ℕ → Status → Option (List ℕ) → List ℕ → List ℕ → Type 0
SqueezeSays steps Done unseen input written = SaysSqueezed steps input written
SqueezeSays steps No unseen input written = SaysNotSqueezed steps input written
SqueezeSays steps ReadFault unseen input written = SaysSqueezeCutOff steps unseen input written
SqueezeSays steps WriteFault unseen input written = SaysSheetsFront steps input written
SqueezeSays steps Memory unseen input written = SaysSheets steps input written
SqueezeSays steps _ unseen input written = ⊥

-- what a status says of the command `squeeze-check`; no other status comes
abbrev pub SqueezeCheckSays : Status → Option (List ℕ) → List ℕ → List ℕ → Type 0
SqueezeCheckSays Done unseen input written = SaysBounds input written
SqueezeCheckSays No unseen input written = SaysNoSheets input written
SqueezeCheckSays ReadFault unseen input written = SaysSheetsCutOff unseen input written
SqueezeCheckSays WriteFault unseen input written = SaysBoundsFront input written
SqueezeCheckSays Memory unseen input written = SaysLines input written
SqueezeCheckSays _ unseen input written = ⊥

-- what a status says of a command over days, which writes this of each round; no other status comes
abbrev pub DaySays : DayOutput → Status → Option (List ℕ) → List ℕ → List ℕ → Type 0
DaySays output Done unseen input written = SaysRounds change_stop (ProvedOf output) input written
DaySays output Unproved unseen input written = SaysRounds change_stop (UnprovedOf output) input written
DaySays output Refused unseen input written = IsRefusedOutput change_stop (TextsOf output) input written
DaySays output ReadFault unseen input written = SaysNothingRead unseen input written
DaySays output WriteFault unseen input written = SaysOutputPart change_stop (TextsOf output) input written
DaySays output Memory unseen input written = SaysFirstRounds change_stop (TextsOf output) input written
DaySays output _ unseen input written = ⊥

-- what a status says of an audit; no other status comes
abbrev pub AuditSays : Status → Option (List ℕ) → List ℕ → List ℕ → Type 0
AuditSays Done unseen input written = SaysEvent audit.Done input written
AuditSays No unseen input written = SaysEvent audit.No input written
AuditSays Refused unseen input written = SaysEvent audit.Refused input written
AuditSays ReadFault unseen input written = SaysNoEvent unseen input written
AuditSays WriteFault unseen input written = SaysEventFront input written
AuditSays Memory unseen input written = written ≡ []
AuditSays _ unseen input written = ⊥

-- what a status says of a trial; no other status comes
abbrev pub TrialSays : TrialWords → Status → Option (List ℕ) → List ℕ → List ℕ → Type 0
TrialSays trial Done unseen input written = SaysLine trial IsProved written
TrialSays trial Unproved unseen input written = SaysLine trial IsUnproved written
TrialSays trial WriteFault unseen input written = SaysLineFront trial written
TrialSays trial Memory unseen input written = written ≡ []
TrialSays trial _ unseen input written = ⊥

-- the statuses that a command over dossiers, or over sheets, can end with
abbrev pub dossiers_end_with : Status → Bool
dossiers_end_with Words = false
dossiers_end_with Refused = false
dossiers_end_with Unproved = false
dossiers_end_with _ = true

-- the statuses that a command over days can end with
abbrev pub day_ends_with : DayOutput → Status → Bool
day_ends_with output Words = false
day_ends_with output No = false
day_ends_with output Unproved = are_dossiers output
day_ends_with output _ = true

-- the statuses that an audit can end with
abbrev pub audit_ends_with : Status → Bool
audit_ends_with Words = false
audit_ends_with Unproved = false
audit_ends_with _ = true

-- the statuses that a trial can end with
abbrev pub trial_ends_with : Status → Bool
trial_ends_with Done = true
trial_ends_with Unproved = true
trial_ends_with WriteFault = true
trial_ends_with Memory = true
trial_ends_with _ = false

-- the bytes are accepted as some dossiers
abbrev pub AreDossiers : List ℕ → Type 0
AreDossiers input = (dossiers : List Dossier) × IsAccepted input dossiers

-- the bytes are accepted as some sheets
abbrev pub AreSheets : List ℕ → Type 0
AreSheets input = (sheets : List Sheet) × AreAcceptedSheets input sheets

-- the bytes tell late tasks and a dossier whose plan does them
abbrev pub AreDelays : List ℕ → Type 0
AreDelays input = (lines : List LateLine) × (d : Dossier) × IsDelays input lines d

-- any bytes
abbrev pub AnyInput : List ℕ → Type 0
AnyInput input = Unit {0}

-- what is promised of a command: the words that ask for it, where its numbers are in their ranges; what each status says of the
-- input, of what its source has left, and of what was written; the statuses that it can end with; whether it reads its source;
-- and the input that it takes to its end
pub record Promises : Type 1 where
  pub words : List (List ℕ)
  pub in_range : Type 0
  pub says : Status → Option (List ℕ) → List ℕ → List ℕ → Type 0
  pub ends_with : Status → Bool
  pub reads : Bool
  pub fine : List ℕ → Type 0

-- a command over dossiers, which writes this text for each good one: it takes bytes that are accepted as dossiers
abbrev pub over_dossiers : List ℕ → (Dossier → List ℕ) → Promises
over_dossiers word text = record {
  words = word ∷ [];
  in_range = Unit {0};
  says = DossiersSay text;
  ends_with = dossiers_end_with;
  reads = true;
  fine = AreDossiers;
}

-- the command `delays`: it takes late tasks, and a dossier whose plan does them
abbrev pub of_delays : Promises
of_delays = record {
  words = codes "delays" ∷ [];
  in_range = Unit {0};
  says = DelaysSay;
  ends_with = dossiers_end_with;
  reads = true;
  fine = AreDelays;
}

-- the command `squeeze`: it takes bytes that are accepted as dossiers
abbrev pub of_squeeze : SqueezeWords → Promises
of_squeeze squeeze = record {
  words = squeeze_words squeeze;
  in_range = IsSqueeze squeeze;
  says = SqueezeSays squeeze.steps;
  ends_with = dossiers_end_with;
  reads = true;
  fine = AreDossiers;
}

-- the command `squeeze-check`: it takes bytes that are accepted as sheets
abbrev pub of_sheets : Promises
of_sheets = record {
  words = codes "squeeze-check" ∷ [];
  in_range = Unit {0};
  says = SqueezeCheckSays;
  ends_with = dossiers_end_with;
  reads = true;
  fine = AreSheets;
}

-- a command over days, which writes this of each round: it takes a day of which it refuses no record, whichever legal plans its
-- rounds get
abbrev pub over_days : List ℕ → DayOutput → Promises
over_days word output = record {
  words = word ∷ [];
  in_range = Unit {0};
  says = DaySays output;
  ends_with = day_ends_with output;
  reads = true;
  fine = IsFineDay change_stop (MayHave output);
}

-- an audit: it takes a day with dossiers that belong to it
abbrev pub an_audit : Promises
an_audit = record {
  words = codes "audit" ∷ [];
  in_range = Unit {0};
  says = AuditSays;
  ends_with = audit_ends_with;
  reads = true;
  fine = IsFineAudit;
}

-- a trial, which reads nothing
abbrev pub of_trial : TrialWords → Promises
of_trial trial = record {
  words = trial_words trial;
  in_range = IsTrial trial;
  says = TrialSays trial;
  ends_with = trial_ends_with;
  reads = false;
  fine = AnyInput;
}

-- the commands, with what is promised of each
abbrev pub promises_of : Command → Promises
promises_of Check = over_dossiers (codes "check") yes_line
promises_of Rosters = over_dossiers (codes "rosters") roster_of
promises_of Why = over_dossiers (codes "why") why_of
promises_of Delays = of_delays
promises_of (Squeeze squeeze) = of_squeeze squeeze
promises_of SqueezeCheck = of_sheets
promises_of Apply = over_days (codes "apply") Instances
promises_of Day = over_days (codes "day") Dossiers
promises_of Audit = an_audit
promises_of (Trial trial) = of_trial trial

-- the words ask for the command: they are its words, and its numbers are in their ranges
abbrev pub AskFor : Command → List (List ℕ) → Type 0
AskFor command words = (promises_of command).in_range × (words ≡ (promises_of command).words)

-- a call keeps what is promised of a command: what its status says, and what was written whatever the status; that it ends with one
-- of its statuses; that what is done was read to its end, or the source is as it was; what is told of faults; and that input that
-- is fine is done, or memory was wanting, where no count of faults rose
pub record Answers {S K : Type 0} (source : SourceTells S) (sink : SinkTells K) (promises : Promises) (src later : S) (out new : K) (status : Status) : Type 0 where
  pub says : OfBytes (source.left src) (sink.got out) (sink.got new) (promises.says status (source.left later))
  pub part : OfBytes (source.left src) (sink.got out) (sink.got new) (promises.says WriteFault (source.left later))
  pub ends : IsTrue (promises.ends_with status)
  pub ended : IsTrue promises.reads → IsTrue (is_done status) → HasEnded (source.left later)
  pub unread : promises.reads ≡ false → later ≡ src
  pub reads : TellsReads source src later (status ≡ ReadFault)
  pub writes : TellsWrites sink out new (status ≡ WriteFault)
  pub complete : IfSome (source.left src) (λ input. promises.fine input
      → (Rose (source.faults src) (source.faults later) → ⊥) → (Rose (sink.faults out) (sink.faults new) → ⊥) → IsTrue (is_done status) ⊎ (status ≡ Memory))
