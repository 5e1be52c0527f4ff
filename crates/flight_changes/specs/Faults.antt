-- how a refusal is told
use Rattle.std.specs.Prelude.{Option, None, Some, Result, Ok, Err}
use Rattle.day_terms.specs.Refusal.{Refusal, refusal_by_lists, TooMany, SameName, NoPlace, NoTask, NoTeam, BadWindow, BadShift, BadTeams, MissingTravel, FrozenWork}
use Rattle.day_terms.specs.State.{DayState}
use Rattle.day_terms.specs.declared.Entry.{Entry}
use Rattle.flight_changes.specs.declared.faults.ChangeFault.{ChangeFault}
use Rattle.flight_changes.specs.declared.faults.ChangeFault.TheVariants as told

-- the fault of the same name
abbrev pub fault_of : Refusal → ChangeFault
fault_of TooMany = told.TooMany
fault_of SameName = told.SameName
fault_of NoPlace = told.NoPlace
fault_of NoTask = told.NoTask
fault_of NoTeam = told.NoTeam
fault_of BadWindow = told.BadWindow
fault_of BadShift = told.BadShift
fault_of BadTeams = told.BadTeams
fault_of (MissingTravel from to) = told.MissingTravel from to
fault_of (FrozenWork task) = told.FrozenWork task

-- Ok where there is no refusal
abbrev pub answer_of : Option Refusal → Result (Unit {0}) ChangeFault
answer_of None = Ok tt
answer_of (Some refusal) = Err (fault_of refusal)

-- the answer of the lists to an entry
abbrev pub answer_by_lists : DayState → Entry → Result (Unit {0}) ChangeFault
answer_by_lists s entry = answer_of (refusal_by_lists s entry)
