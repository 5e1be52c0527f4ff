-- the ranges of an entry's numbers
use Rattle.std.specs.Prelude.{◌≤◌, ◌<◌, ℕ}
use Rattle.crew_terms.specs.declared.TheConstants.{LAST_MINUTE, MOST_NODES, SKILLS}
use Rattle.day_terms.specs.declared.TheConstants.{GREATEST_COUNT}
use Rattle.day_terms.specs.declared.Entry.{Entry}
use Rattle.day_terms.specs.declared.Entry.TheVariants.{Place, Travel, RouteTime, DefaultTravel, Team, Task, Cancel, Move, Longer, Needs, Sick, Shift, Skill, Unskill, Plan, Now, Thaw}

-- a minute of the day, or of a way
abbrev pub IsMinute : ℕ → Type 0
IsMinute n = n ≤ LAST_MINUTE

-- how long a task takes
pub record IsDuration (n : ℕ) : Type 0 where
  pub some : 1 ≤ n
  pub day : n ≤ LAST_MINUTE

-- the numbers of a task's entry
pub record IsTaskRange (earliest latest minutes teams : ℕ) : Type 0 where
  pub earliest_minute : IsMinute earliest
  pub latest_minute : IsMinute latest
  pub duration : IsDuration minutes
  pub count : teams ≤ GREATEST_COUNT

-- minutes, durations, counts of teams, skills and budgets are in their ranges
abbrev pub IsInRange : Entry → Type 0
IsInRange (Place name) = Unit {0}
IsInRange (Travel from to minutes) = IsMinute minutes
IsInRange (RouteTime from to minutes) = IsMinute minutes
IsInRange (DefaultTravel minutes) = IsMinute minutes
IsInRange (Team name home from until skills) = IsMinute from × IsMinute until
IsInRange (Task name place earliest latest minutes teams skills) = IsTaskRange earliest latest minutes teams
IsInRange (Cancel task) = Unit {0}
IsInRange (Move task earliest latest) = IsMinute earliest × IsMinute latest
IsInRange (Longer task minutes) = IsDuration minutes
IsInRange (Needs task teams) = teams ≤ GREATEST_COUNT
IsInRange (Sick team) = Unit {0}
IsInRange (Shift team from until) = IsMinute from × IsMinute until
IsInRange (Skill team skill) = skill < SKILLS
IsInRange (Unskill team skill) = skill < SKILLS
IsInRange (Plan nodes) = nodes ≤ MOST_NODES
IsInRange (Now time) = IsMinute time
IsInRange (Thaw task) = Unit {0}
