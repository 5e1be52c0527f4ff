-- routes by the names of their teams and tasks
use Rattle.std.specs.Prelude.{◌<◌, ℕ, List, [], length, map, slice_index_or, All}
use Rattle.crew_terms.specs.Instance.{Instance}
use Rattle.crew_terms.specs.Limits.{Route}
use Rattle.crew_terms.specs.declared.Task.{Task}
use Rattle.crew_terms.specs.declared.Team.{Team}
use Rattle.crew_terms.specs.declared.Visit.{Visit}

-- a task's name, and the minute at which it begins
pub record NamedVisit : Type 0 where
  pub task : List ℕ
  pub start : ℕ

-- a team's name, and its visits by the tasks' names
pub record NamedRoute : Type 0 where
  pub team : List ℕ
  pub visits : List NamedVisit

-- the name with this number
abbrev pub name_of : List (List ℕ) → ℕ → List ℕ
name_of names k = slice_index_or names k []

-- the names of the teams, by number
abbrev pub team_names : Instance → List (List ℕ)
team_names i = map (λ (t : Team). t.name) i.teams

-- the names of the tasks, by number
abbrev pub task_names : Instance → List (List ℕ)
task_names i = map (λ (t : Task). t.name) i.tasks

-- the visit by these names of tasks
abbrev pub visit_named : List (List ℕ) → Visit → NamedVisit
visit_named tasks v = record { task = name_of tasks v.task; start = v.start }

-- the route by these names of teams and of tasks
abbrev pub route_named : List (List ℕ) → List (List ℕ) → Route → NamedRoute
route_named teams tasks r = record { team = name_of teams r.team; visits = map (visit_named tasks) r.visits }

-- the route by the names of the instance
abbrev pub by_names : Instance → Route → NamedRoute
by_names i r = route_named (team_names i) (task_names i) r

-- the team and the tasks are the instance's
pub record IsOfInstance (i : Instance) (r : Route) : Type 0 where
  pub team : r.team < length i.teams
  pub tasks : All (λ (v : Visit). v.task < length i.tasks) r.visits
