-- what an instance must meet
use Rattle.std.specs.Prelude.{◌≡◌, ◌≢◌, ◌≤◌, ◌<◌, ◌-◌, ◌^◌, ℕ, List, length, All, AllPairs}
use Rattle.crew_terms.specs.Name.{IsName}
use Rattle.crew_terms.specs.Plan.{empty_plan}
use Rattle.crew_terms.specs.Instance.{Instance}
use Rattle.crew_terms.specs.Legal.{IsFeasible}
use Rattle.crew_terms.specs.declared.Team.{Team}
use Rattle.crew_terms.specs.declared.Task.{Task}
use Rattle.crew_terms.specs.declared.TheConstants.{MOST_PLACES, MOST_TEAMS, MOST_TASKS, MOST_TEAMS_PER_TASK, SKILLS, LAST_MINUTE, WIDEST_WINDOW}

-- a shift within the limits
pub record IsShift (t : Team) : Type 0 where
  pub order : t.from < t.until
  pub day : t.until ≤ LAST_MINUTE

-- a window and a duration within the limits
pub record IsWindow (t : Task) : Type 0 where
  pub order : t.earliest ≤ t.latest
  pub width : t.latest - t.earliest ≤ WIDEST_WINDOW
  pub day : t.latest ≤ LAST_MINUTE
  pub some_minutes : 1 ≤ t.minutes
  pub minutes : t.minutes ≤ LAST_MINUTE

-- a number of teams within the limits
pub record IsTeamCount (n : ℕ) : Type 0 where
  pub some : 1 ≤ n
  pub few : n ≤ MOST_TEAMS_PER_TASK

-- a team of an instance with this many places
pub record IsTeam (places : ℕ) (t : Team) : Type 0 where
  pub name : IsName t.name
  pub home : t.home < places
  pub shift : IsShift t
  pub skills : t.skills < 2 ^ SKILLS

-- a task of an instance with this many places
pub record IsTask (places : ℕ) (t : Task) : Type 0 where
  pub name : IsName t.name
  pub place : t.place < places
  pub window : IsWindow t
  pub teams : IsTeamCount t.teams
  pub skills : t.skills < 2 ^ SKILLS

-- places, teams and tasks within the limits, and the names of each kind differ
pub record AreParts (the_places : List (List ℕ)) (the_teams : List Team) (the_tasks : List Task) : Type 0 where
  pub few_places : length the_places ≤ MOST_PLACES
  pub few_teams : length the_teams ≤ MOST_TEAMS
  pub few_tasks : length the_tasks ≤ MOST_TASKS
  pub places : All IsName the_places
  pub teams : All (IsTeam (length the_places)) the_teams
  pub tasks : All (IsTask (length the_places)) the_tasks
  pub place_names : AllPairs (λ a b. a ≢ b) the_places
  pub team_names : AllPairs (λ (a b : Team). a.name ≢ b.name) the_teams
  pub task_names : AllPairs (λ (a b : Task). a.name ≢ b.name) the_tasks

-- a time from each place to each, within the limits
pub record AreTimes (places : ℕ) (travel : List (List ℕ)) : Type 0 where
  pub rows : length travel ≡ places
  pub columns : All (λ row. length row ≡ places) travel
  pub minutes : All (All (λ t. t ≤ LAST_MINUTE)) travel

-- all is within the limits, the names of each kind differ, and the frozen jobs alone are feasible
pub record IsInstance (i : Instance) : Type 0 where
  pub parts : AreParts i.places i.teams i.tasks
  pub times : AreTimes (length i.places) i.travel
  pub frozen : IsFeasible i i.frozen

-- no task has a frozen job
abbrev pub HasNoFrozen : Instance → Type 0
HasNoFrozen i = i.frozen ≡ empty_plan (length i.tasks)
