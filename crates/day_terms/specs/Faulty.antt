-- which job of a plan is the first that its teams can't do: tests of when a plan is feasible
use Rattle.std.specs.Prelude.{◌+◌, ◌++◌, ◌&&◌, ◌||◌, ℕ, Bool, true, false, List, [], ◌∷◌, Option, None, Some, not, bit_and, filter, flat_map, length, nat_eq, nat_le, nat_lt, slice_get}
use Rattle.std.specs.List.{list_all, list_any, range_with_len}
use Rattle.crew_terms.specs.Instance.{Instance, task_of, team_of, minutes_between}
use Rattle.crew_terms.specs.Plan.{Plan, Job, job_of}

-- the numbers below n
abbrev pub below : ℕ → List ℕ
below n = range_with_len 0 n

-- each number is less than those behind it
abbrev pub is_rising : List ℕ → Bool
is_rising [] = true
is_rising (k ∷ ks) = list_all (nat_lt k) ks && is_rising ks

-- the team has each skill of the task
abbrev pub is_qualified : Instance → ℕ → ℕ → Bool
is_qualified i k j = nat_eq (bit_and (task_of i j).skills (team_of i k).skills) (task_of i j).skills

-- the team can come from home and be back in its shift, if it begins the task at minute t
abbrev pub is_in_shift : Instance → ℕ → ℕ → ℕ → Bool
is_in_shift i k j t =
    nat_le ((team_of i k).from + minutes_between i (team_of i k).home (task_of i j).place) t
    && nat_le (t + (task_of i j).minutes + minutes_between i (task_of i j).place (team_of i k).home) (team_of i k).until

-- k is a team, and can begin task j at minute t
abbrev pub is_fit : Instance → ℕ → ℕ → ℕ → Bool
is_fit i j t k = nat_lt k (length i.teams) && is_qualified i k j && is_in_shift i k j t

-- the job is in the task's window, and has as many teams as it needs, each once, in order, and each of them fit
abbrev pub is_good : Instance → ℕ → Job → Bool
is_good i j job =
    nat_le (task_of i j).earliest job.start
    && nat_le job.start (task_of i j).latest
    && is_rising job.teams
    && nat_eq (length job.teams) (task_of i j).teams
    && list_all (is_fit i j job.start) job.teams

-- it is one that is not good
abbrev pub is_bad : Instance → ℕ → Option Job → Bool
is_bad i j None = false
is_bad i j (Some job) = not (is_good i j job)

-- when it is begun, if it is one
abbrev pub start_of : Option Job → ℕ
start_of None = 0
start_of (Some job) = job.start

-- team k is one of its teams
abbrev pub has : ℕ → Option Job → Bool
has k None = false
has k (Some job) = list_any (nat_eq k) job.teams

-- team k does both tasks, and task j first: by start, and then by number
abbrev pub precedes : Plan → ℕ → ℕ → ℕ → Bool
precedes p k j h =
    has k (job_of p j) && has k (job_of p h)
    && (nat_lt (start_of (job_of p j)) (start_of (job_of p h)) || nat_eq (start_of (job_of p j)) (start_of (job_of p h)) && nat_lt j h)

-- after task j the next task of team k is task h
abbrev pub is_next : Plan → ℕ → ℕ → ℕ → Bool
is_next p k j h = precedes p k j h && not (list_any (λ g. precedes p k j g && precedes p k g h) (below (length p)))

-- a team that does task j can begin task h in time
abbrev pub can_follow : Instance → Plan → ℕ → ℕ → Bool
can_follow i p j h =
    nat_le (start_of (job_of p j) + (task_of i j).minutes + minutes_between i (task_of i j).place (task_of i h).place) (start_of (job_of p h))

-- team k can't come from task j to its next in time
abbrev pub clashes : Instance → Plan → ℕ → ℕ → Bool
clashes i p k j = list_any (λ h. is_next p k j h && not (can_follow i p j h)) (below (length p))

-- task j is the first such of team k
abbrev pub is_first_clash : Instance → Plan → ℕ → ℕ → Bool
is_first_clash i p k j = clashes i p k j && not (list_any (λ g. clashes i p k g && precedes p k g j) (below (length p)))

-- the tasks with a job that is not good; and then, by team, the first from which it can't come to the next in time
abbrev pub faulty_tasks : Instance → Plan → List ℕ
faulty_tasks i p =
    filter (λ j. is_bad i j (job_of p j)) (below (length p))
    ++ flat_map (λ k. filter (is_first_clash i p k) (below (length p))) (below (length i.teams))

-- the task that the plan's first fault names, the first of two; none where the plan is feasible
abbrev pub faulty_task : Instance → Plan → Option ℕ
faulty_task i p = slice_get (faulty_tasks i p) 0
