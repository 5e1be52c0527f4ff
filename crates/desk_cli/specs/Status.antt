-- how a call ended
use Rattle.std.specs.Prelude.{ℕ, Result, Ok, Err, None, Some}
use Rattle.desk_commands.specs.declared.read.Ended.{Ended}
use Rattle.desk_commands.specs.declared.read.Ended.TheVariants as dossiers
use Rattle.day_explain.specs.declared.read.Ended.{Ended as DayEnded}
use Rattle.day_explain.specs.declared.read.Ended.TheVariants as day
use Rattle.desk_cli.specs.declared.run.Outcome.{Outcome}
use Rattle.desk_cli.specs.declared.status.Status.{Status}
use Rattle.desk_cli.specs.declared.status.Status.TheVariants.{Done, No, Words, ReadFault, WriteFault, Memory}

-- the exit status of the program
abbrev pub number_of : Status → ℕ
number_of Done = 0
number_of No = 1
number_of Words = 2
number_of ReadFault = 4
number_of WriteFault = 5
number_of Memory = 6

-- an outcome that tells no line
abbrev pub told_nothing : Status → Outcome
told_nothing status = record { status = status; refusal = None }

-- the outcome of a command over dossiers that ended so, or for which memory was wanting
abbrev pub outcome_of : {E : Type 0} → Result Ended E → Outcome
outcome_of (Ok dossiers.Done) = told_nothing Done
outcome_of (Ok (dossiers.No refusal)) = record { status = No; refusal = Some refusal }
outcome_of (Ok dossiers.ReadFault) = told_nothing ReadFault
outcome_of (Ok dossiers.WriteFault) = told_nothing WriteFault
outcome_of (Err fault) = told_nothing Memory

-- the outcome of a command over a day that ended so, or for which memory was wanting
abbrev pub day_outcome : {E : Type 0} → Result DayEnded E → Outcome
day_outcome (Ok day.Fine) = told_nothing Done
day_outcome (Ok day.Wrong) = told_nothing No
day_outcome (Ok day.ReadFault) = told_nothing ReadFault
day_outcome (Ok day.WriteFault) = told_nothing WriteFault
day_outcome (Err fault) = told_nothing Memory
