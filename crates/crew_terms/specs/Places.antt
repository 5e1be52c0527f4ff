-- laws of teams and tasks where there is one more place
use Rattle.std.proofs.Common.{◌+◌, ℕ, arith}
use Rattle.crew_terms.specs.Rules.{IsTeam, IsTask}
use Rattle.crew_terms.specs.declared.Team.{Team}
use Rattle.crew_terms.specs.declared.Task.{Task}

-- the team's home is still one of the places
pub team_at_home : (n : ℕ) (t : Team) → IsTeam n t → IsTeam (n + 1) t
team_at_home n t is = record { name = is.name; home = let h = is.home in omega arith; shift = is.shift; skills = is.skills }

-- the task's place is still one of them
pub task_in_place : (n : ℕ) (t : Task) → IsTask n t → IsTask (n + 1) t
task_in_place n t is = record {
  name = is.name;
  place = let h = is.place in omega arith;
  window = is.window;
  teams = is.teams;
  skills = is.skills;
}
