-- how long a team is on its way to a job
use Rattle.std.specs.Prelude.{◌==◌, ◌&&◌, ℕ, zero, suc, Bool, List, Option, None, Some, length, nat_lt, if◌then◌else◌}
use Rattle.std.specs.List.{list_any}
use Rattle.std.specs.Option.{option_map_or}
use Rattle.crew_terms.specs.Instance.{Instance, minutes_between, task_of, team_of}
use Rattle.crew_terms.specs.Plan.{Job, Plan, job_of}
use Rattle.crew_instance.specs.declared.turns.Turn.{Turn}

-- team k is one of these
abbrev pub is_one_of : List ℕ → ℕ → Bool
is_one_of teams k = list_any (λ team. team == k) teams

-- the turn of team k at task h, if it begins the task before minute t
abbrev pub turn_in : ℕ → ℕ → ℕ → Job → Option Turn
turn_in k t h job = if nat_lt job.start t && is_one_of job.teams k then Some (record { start = job.start; task = h }) else None

abbrev pub turn_at : Plan → ℕ → ℕ → ℕ → Option Turn
turn_at p k t h = option_map_or (turn_in k t h) (job_of p h) None

-- the later of two turns, the first where they begin together
abbrev pub later_turn : Option Turn → Option Turn → Option Turn
later_turn None b = b
later_turn (Some a) None = Some a
later_turn (Some a) (Some b) = if nat_lt a.start b.start then Some b else Some a

-- of the first tasks, the one that team k begins last before minute t
abbrev pub last_turn : Plan → ℕ → ℕ → ℕ → Option Turn
last_turn p k t zero = None
last_turn p k t (suc h) = later_turn (last_turn p k t h) (turn_at p k t h)

-- the place where a team is behind a turn: that of the task, or its home behind none
abbrev pub place_after : Instance → ℕ → Option Turn → ℕ
place_after i k None = (team_of i k).home
place_after i k (Some turn) = (task_of i turn.task).place

-- the minutes that team k is on its way to task j, which it begins at minute t
unfoldable pub minutes_to : Instance → Plan → ℕ → ℕ → ℕ → ℕ
minutes_to i p k j t = minutes_between i (place_after i k (last_turn p k t (length p))) (task_of i j).place
