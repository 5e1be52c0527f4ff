-- how many teams could begin an open task, and when enough could
use Rattle.std.specs.Prelude.{◌+◌, ◌-◌, ℕ, Bool, true, false, List, Option, count_by, find, length, map, nat_le}
use Rattle.std.specs.List.{range_with_len}
use Rattle.crew_terms.specs.Instance.{Instance, task_of}
use Rattle.crew_terms.specs.Plan.{Plan}
use Rattle.team_days.specs.Obstacles.{obstacle_of}
use Rattle.team_days.specs.declared.obstacles.Obstacle.{Obstacle}
use Rattle.team_days.specs.declared.obstacles.Obstacle.TheVariants.{Free, Skill, Shift, Busy}

-- what keeps each team, in order, from task j at minute t
unfoldable pub obstacles_at : Instance → Plan → ℕ → ℕ → List Obstacle
obstacles_at i p j t = map (λ k. obstacle_of i p k j t) (range_with_len 0 (length i.teams))

-- nothing keeps the team from the task
abbrev pub is_free : Obstacle → Bool
is_free Free = true
is_free Skill = false
is_free Shift = false
is_free (Busy h) = false

-- how many teams are free for task j at minute t
abbrev pub free_count : Instance → Plan → ℕ → ℕ → ℕ
free_count i p j t = count_by is_free (obstacles_at i p j t)

-- the minutes of the task's window
abbrev pub window_minutes : Instance → ℕ → List ℕ
window_minutes i j = range_with_len (task_of i j).earliest ((task_of i j).latest + 1 - (task_of i j).earliest)

-- the first minute of its window at which as many teams are free as task j needs
unfoldable pub first_fit : Instance → Plan → ℕ → Option ℕ
first_fit i p j = find (λ t. nat_le (task_of i j).teams (free_count i p j t)) (window_minutes i j)
