-- a day's state: its lists, who has a name in them, and how they are changed
use Rattle.std.specs.Prelude.{◌&&◌, ℕ, Bool, List, [], ◌∷◌, Option, None, bytes_eq, map, position, unwrap_or, if◌then◌else◌}
use Rattle.std.specs.List.{list_any}
use Rattle.crew_terms.specs.Plan.{Plan}
use Rattle.crew_terms.specs.declared.Team.{Team}
use Rattle.crew_terms.specs.declared.Task.{Task}

-- a travel time that was given, from one place to another
pub record Given : Type 0 where
  pub from : List ℕ
  pub to : List ℕ
  pub minutes : ℕ

-- a job of a plan, by names: its task, the minute at which it is begun, and its teams
pub record NamedJob : Type 0 where
  pub task : List ℕ
  pub start : ℕ
  pub teams : List (List ℕ)

-- places, teams and tasks, where a home or a task's place is a place's number; the given travel times, by names; the time
-- between different places that have none of their own; what is left of the last plan, by start and then by task; the frozen
-- jobs, which each plan must have; and the plans of the rounds to come, as far as they are known
pub record DayState : Type 0 where
  pub places : List (List ℕ)
  pub teams : List Team
  pub tasks : List Task
  pub times : List Given
  pub default_minutes : Option ℕ
  pub last_plan : List NamedJob
  pub frozen : List NamedJob
  pub plans : List Plan

-- the state before the first entry, where no plan of a round is known
abbrev pub start : DayState
start = record { places = []; teams = []; tasks = []; times = []; default_minutes = None; last_plan = []; frozen = []; plans = [] }

-- and where the rounds have these plans
abbrev pub start_with : List Plan → DayState
start_with plans = record start { plans = plans }

-- a place has the name
abbrev pub has_place : DayState → List ℕ → Bool
has_place s name = list_any (bytes_eq name) s.places

-- the team has the name
abbrev pub is_team : List ℕ → Team → Bool
is_team name t = bytes_eq name t.name

-- a team has the name
abbrev pub has_team : DayState → List ℕ → Bool
has_team s name = list_any (is_team name) s.teams

-- the task has the name
abbrev pub is_task : List ℕ → Task → Bool
is_task name t = bytes_eq name t.name

-- a task has the name
abbrev pub has_task : DayState → List ℕ → Bool
has_task s name = list_any (is_task name) s.tasks

-- the number of the place that has the name
abbrev pub place_number : DayState → List ℕ → ℕ
place_number s name = unwrap_or (position (bytes_eq name) s.places) 0

-- the time is one from the one place to the other
abbrev pub is_way : List ℕ → List ℕ → Given → Bool
is_way from to g = bytes_eq from g.from && bytes_eq to g.to

-- the times with this one, in the place of the one that was given from the one place to the other, or else last
abbrev pub given_time : List Given → List ℕ → List ℕ → ℕ → List Given
given_time [] from to minutes = record { from = from; to = to; minutes = minutes } ∷ []
given_time (g ∷ gs) from to minutes = if is_way from to g then record g { minutes = minutes } ∷ gs else g ∷ given_time gs from to minutes

-- with the time from the one place to the other
abbrev pub with_time_between : DayState → List ℕ → List ℕ → ℕ → DayState
with_time_between s from to minutes = record s { times = given_time s.times from to minutes }

-- with the team of this name changed
abbrev pub with_changed_team : DayState → List ℕ → (Team → Team) → DayState
with_changed_team s name change = record s { teams = map (λ t. if is_team name t then change t else t) s.teams }

-- with the task of this name changed
abbrev pub with_changed_task : DayState → List ℕ → (Task → Task) → DayState
with_changed_task s name change = record s { tasks = map (λ t. if is_task name t then change t else t) s.tasks }
