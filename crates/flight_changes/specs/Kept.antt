-- what the fields stand for
use Rattle.std.specs.Prelude.{◌≡◌, ℕ, List, [], map}
use Rattle.indexmap.specs.IndexMap.{keys, values}
use Rattle.day_terms.specs.State.{DayState, Given, NamedJob}
use Rattle.flight_changes.specs.Limits.{IsState, IsWork}
use Rattle.flight_changes.specs.declared.lists.Lists.TheInside.{Inside}
use Rattle.flight_changes.specs.declared.desks.Desk.TheInside.{Inside as DeskParts}
use Rattle.flight_changes.specs.declared.jobs.NamedJob.TheInside.{Inside as JobParts}
use Rattle.flight_changes.specs.declared.jobs.PlannedJobs.TheInside.{Inside as PlannedParts}

-- a time that was given, as it is kept
abbrev pub given_of : (List ℕ × List ℕ) × ℕ → Given
given_of e = record { from = e.0.0; to = e.0.1; minutes = e.1 }

abbrev pub kept : Inside → DayState
kept a = record {
  places = a.places.keys;
  teams = values a.teams;
  tasks = values a.tasks;
  times = map given_of a.times.entries;
  default_minutes = a.default_minutes;
  last_plan = [];
  frozen = [];
  plans = [];
}

-- teams and tasks stand under their names, and what is kept is within the limits
pub record AreKept (a : Inside) : Type 0 where
  pub teams_by_name : keys a.teams ≡ map (λ t. t.name) (values a.teams)
  pub tasks_by_name : keys a.tasks ≡ map (λ t. t.name) (values a.tasks)
  pub state : IsState (kept a)

abbrev pub job_in : JobParts → NamedJob
job_in a = record { task = a.task; start = a.start; teams = a.teams.items }

abbrev pub jobs_in : PlannedParts → List NamedJob
jobs_in a = a.jobs.items

-- the lists, with the jobs; no plan of a round to come is known
abbrev pub state_of : DeskParts → DayState
state_of a = record a.lists { last_plan = a.last_plan.items; frozen = a.frozen.items; plans = [] }

abbrev pub IsKept : DeskParts → Type 0
IsKept a = IsWork (state_of a)
