-- how a call ended
use Rattle.std.specs.Prelude.{ℕ, Bool, true, false, Result, Ok, Err}
use Rattle.dossier_commands.specs.declared.read.Ended.{Ended as DossiersEnded}
use Rattle.dossier_commands.specs.declared.read.Ended.TheVariants as dossiers
use Rattle.day_commands.specs.declared.ended.Ended.{Ended as DayEnded}
use Rattle.day_commands.specs.declared.ended.Ended.TheVariants as day
use Rattle.audit_command.specs.declared.ended.Ended.{Ended as AuditEnded}
use Rattle.audit_command.specs.declared.ended.Ended.TheVariants as audit
use Rattle.trial_command.specs.declared.trial.TrialEnded.{TrialEnded}
use Rattle.trial_command.specs.declared.trial.TrialEnded.TheVariants as trial
use Rattle.crew_cli.specs.declared.status.Status.{Status}
use Rattle.crew_cli.specs.declared.status.Status.TheVariants.{Done, No, Words, Refused, ReadFault, WriteFault, Memory, Unproved}

-- the exit status of the program
abbrev pub number_of : Status → ℕ
number_of Done = 0
number_of No = 1
number_of Words = 2
number_of Refused = 3
number_of ReadFault = 4
number_of WriteFault = 5
number_of Memory = 6
number_of Unproved = 7

-- the work was done to the end of the input
abbrev pub is_done : Status → Bool
is_done Done = true
is_done Unproved = true
is_done _ = false

-- the status of a command over dossiers, or over sheets, that ended so, or for which memory was wanting
abbrev pub dossiers_status : {E : Type 0} → Result DossiersEnded E → Status
dossiers_status (Ok dossiers.Done) = Done
dossiers_status (Ok dossiers.No) = No
dossiers_status (Ok dossiers.ReadFault) = ReadFault
dossiers_status (Ok dossiers.WriteFault) = WriteFault
dossiers_status (Err fault) = Memory

-- the status of a command over days that ended so, or for which memory was wanting
abbrev pub day_status : {E : Type 0} → Result DayEnded E → Status
day_status (Ok day.Done) = Done
day_status (Ok day.Unproved) = Unproved
day_status (Ok day.Refused) = Refused
day_status (Ok day.ReadFault) = ReadFault
day_status (Ok day.WriteFault) = WriteFault
day_status (Err fault) = Memory

-- the status of an audit that ended so, or for which memory was wanting
abbrev pub audit_status : {E : Type 0} → Result AuditEnded E → Status
audit_status (Ok audit.Done) = Done
audit_status (Ok audit.No) = No
audit_status (Ok audit.Refused) = Refused
audit_status (Ok audit.ReadFault) = ReadFault
audit_status (Ok audit.WriteFault) = WriteFault
audit_status (Err fault) = Memory

-- the status of a trial that ended so, or for which memory was wanting
abbrev pub trial_status : {E : Type 0} → Result TrialEnded E → Status
trial_status (Ok trial.Done) = Done
trial_status (Ok trial.Unproved) = Unproved
trial_status (Ok trial.WriteFault) = WriteFault
trial_status (Err fault) = Memory
