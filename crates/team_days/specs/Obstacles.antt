-- what keeps a team from taking a task into its day
use Rattle.std.specs.Prelude.{◌≤◌, ◌<◌, ◌⊎◌, ◌+◌, ◌&&◌, ◌∷◌, [], ℕ, zero, suc, Bool, false, List, Option, None, Some, bit_and, find, length, max, nat_eq, nat_le, option_map, slice_index_or, if◌then◌else◌}
use Rattle.std.specs.List.{list_any, range_with_len}
use Rattle.std.specs.Option.{option_map_or, option_or}
use Rattle.crew_terms.specs.Instance.{Instance, task_of, team_of, minutes_between}
use Rattle.crew_terms.specs.Legal.{IsFeasible}
use Rattle.crew_terms.specs.Plan.{Plan, Does, job_of}
use Rattle.crew_instance.specs.Turns.{AreTurns}
use Rattle.crew_instance.specs.declared.turns.Turn.{Turn}
use Rattle.team_days.specs.declared.obstacles.Obstacle.{Obstacle}
use Rattle.team_days.specs.declared.obstacles.Obstacle.TheVariants.{Free, Skill, Shift, Busy}

-- ---- tests

-- the team has each skill of the task
abbrev pub is_qualified : Instance → ℕ → ℕ → Bool
is_qualified i k j = nat_eq (bit_and (task_of i j).skills (team_of i k).skills) (task_of i j).skills

-- the team can come from home and be back in its shift, if it begins the task at minute t
abbrev pub is_in_shift : Instance → ℕ → ℕ → ℕ → Bool
is_in_shift i k j t =
    nat_le ((team_of i k).from + minutes_between i (team_of i k).home (task_of i j).place) t
    && nat_le (t + (task_of i j).minutes + minutes_between i (task_of i j).place (team_of i k).home) (team_of i k).until

-- a team that begins task j at minute t can begin task h at minute u
abbrev pub can_follow : Instance → ℕ → ℕ → ℕ → ℕ → Bool
can_follow i j t h u = nat_le (t + (task_of i j).minutes + minutes_between i (task_of i j).place (task_of i h).place) u

-- team k begins task h at minute t
abbrev pub begins_at : Plan → ℕ → ℕ → ℕ → Bool
begins_at p k t h = option_map_or (λ job. nat_eq job.start t && list_any (nat_eq k) job.teams) (job_of p h) false

-- ---- what team k begins

-- at minute t
unfoldable pub turn_at : Plan → ℕ → ℕ → Option Turn
turn_at p k t = option_map (λ h. record { start = t; task = h }) (find (begins_at p k t) (range_with_len 0 (length p)))

-- the last before minute t
unfoldable pub last_before : Plan → ℕ → ℕ → Option Turn
last_before p k zero = None
last_before p k (suc t) = option_or (turn_at p k t) (last_before p k t)

-- the first in so many minutes from minute t on
unfoldable pub first_in : Plan → ℕ → ℕ → ℕ → Option Turn
first_in p k zero t = None
first_in p k (suc minutes) t = option_or (turn_at p k t) (first_in p k minutes (suc t))

-- the last minute at which a job of the plan is begun, 0 where there is none
unfoldable pub last_start : Plan → ℕ
last_start [] = 0
last_start (None ∷ p) = last_start p
last_start (Some job ∷ p) = max job.start (last_start p)

-- the first after minute t
abbrev pub first_after : Plan → ℕ → ℕ → Option Turn
first_after p k t = first_in p k (last_start p) (suc t)

-- ---- the obstacle

-- the task of the turn before, if the team comes too late from it to task j at minute t
abbrev pub late_from : Instance → Option Turn → ℕ → ℕ → Option ℕ
late_from i None j t = None
late_from i (Some v) j t = if can_follow i v.task v.start j t then None else Some v.task

-- the task of the turn after, if the team would come too late to it
abbrev pub late_to : Instance → ℕ → ℕ → Option Turn → Option ℕ
late_to i j t None = None
late_to i j t (Some v) = if can_follow i j t v.task v.start then None else Some v.task

-- the first of these: the task that team k begins at minute t, the last one before, if it comes too late from it, and the
-- first one after, if it would come too late to it
abbrev pub task_in_way : Instance → Plan → ℕ → ℕ → ℕ → Option ℕ
task_in_way i p k j t =
    option_or (option_map (λ v. v.task) (turn_at p k t)) (option_or (late_from i (last_before p k t) j t) (late_to i j t (first_after p k t)))

-- what keeps team k from taking task j at minute t into its day: the first of a skill that it lacks, its shift, and a task in
-- the way
unfoldable pub obstacle_of : Instance → Plan → ℕ → ℕ → ℕ → Obstacle
obstacle_of i p k j t =
    if is_qualified i k j then (if is_in_shift i k j t then option_map_or Busy (task_in_way i p k j t) Free else Shift) else Skill

-- ---- the turns of a team

-- a turn of a known task, by the last minute of the task's window
pub record IsTurnOf (i : Instance) (v : Turn) : Type 0 where
  pub task : v.task < length i.tasks
  pub window : v.start ≤ (task_of i v.task).latest

-- the turns are what team k does in a feasible plan, in order
abbrev pub IsTeamDay : Instance → ℕ → List Turn → Type 0
IsTeamDay i k turns = (p : Plan) × IsFeasible i p × AreTurns p k (length p) turns

-- of what team k begins at minute t or later, this is the first
pub record IsNextFrom (p : Plan) (k t : ℕ) (v : Turn) : Type 0 where
  pub does : Does p k v.task v.start
  pub from : t ≤ v.start
  pub first : (g r : ℕ) → Does p k g r → (r < t) ⊎ (v.start ≤ r)

-- of the turns, the first so many begin before minute t, and the others don't
pub record IsCountBefore (turns : List Turn) (t at : ℕ) : Type 0 where
  pub below : (x : ℕ) (d : Turn) → x < at → (slice_index_or turns x d).start < t
  pub above : (x : ℕ) (d : Turn) → at ≤ x → x < length turns → t ≤ (slice_index_or turns x d).start
