-- what is told of a refused record, next to what the commands over days say of it
use Rattle.std.specs.Prelude.{◌≡◌, ◌<◌, ◌++◌, ℕ, List, Option, Some, codes}
use Rattle.flight_changes.specs.declared.faults.ChangeFault.TheVariants.{FrozenWork}
use Rattle.day_commands.specs.Refused.{refused_line}
use Rattle.day_commands.specs.Rounds.{DayStop}
use Rattle.day_commands.specs.declared.refused.DayFault.{DayFault}
use Rattle.day_commands.specs.declared.refused.DayFault.TheVariants as day
use Rattle.day_faults.specs.declared.stops.Stop.{Stop}
use Rattle.day_faults.specs.declared.stops.StopCause.{StopCause}
use Rattle.day_faults.specs.declared.stops.StopCause.TheVariants.{InItself, Change}

-- the cause that is told, as the commands over days name it
abbrev pub day_cause : StopCause → DayFault
day_cause (InItself cause) = day.InItself cause
day_cause (Change fault) = day.Change fault

-- the refusal that is told, as that of the commands over days
abbrev pub day_stop : Stop → DayStop
day_stop stop = record { number = stop.number; cause = day_cause stop.cause }

-- a record is refused for the sake of frozen work, before the one of which a fault is told first, if one is
pub record StopsForWork (told : Option Stop) (stop : Option DayStop) : Type 0 where
  pub number : ℕ
  pub task : List ℕ
  pub is : stop ≡ Some (record { number = number; cause = day.Change (FrozenWork task) })
  pub before : (first : Stop) → told ≡ Some first → number < first.number

-- what is told of a day ends with the line with which the output of `apply` ends: it refuses the record with this number, 0 where the
-- day is too long
pub record EndAlike (explained applied : List ℕ) : Type 0 where
  pub number : ℕ
  pub cause : DayFault
  pub faults : List ℕ
  pub rounds : List ℕ
  pub told : explained ≡ faults ++ (codes "apply would say: " ++ refused_line number cause)
  pub written : applied ≡ rounds ++ refused_line number cause
