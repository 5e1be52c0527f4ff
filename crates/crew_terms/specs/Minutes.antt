-- the minutes at which a team may begin a task, the tasks that it may begin, and the pairs that a node requires
use Rattle.std.specs.Prelude.{◌≤◌, ◌<◌, ◌+◌, ◌-◌, ◌==◌, ◌&&◌, ◌↔◌, nat_lt, min, max, ℕ, Bool, true, false, List, filter, if◌then◌else◌, bit_and, Contains}
use Rattle.std.specs.List.{range_with_len}
use Rattle.std.specs.List.Sorted.{IsStrictlyIncreasing}
use Rattle.crew_terms.specs.Instance.{team_of, task_of, minutes_between}
use Rattle.crew_terms.specs.Limits.{Limits, tasks_in, teams_in, window_of, pair_of, has_required, is_required}
use Rattle.crew_terms.specs.declared.Pair.{Pair}
use Rattle.crew_terms.specs.declared.Pair.TheVariants.{Free, Forbidden, Required}

-- the pair is not forbidden
abbrev pub is_free_or_required : Pair → Bool
is_free_or_required Free = true
is_free_or_required Forbidden = false
is_free_or_required Required = true

-- the first minute at which team k may begin task j
abbrev pub first_minute : Limits → ℕ → ℕ → ℕ
first_minute n k j = max (window_of n j).0 ((team_of n.instance k).from + minutes_between n.instance (team_of n.instance k).home (task_of n.instance j).place)

-- how many minutes team k may begin task j at
abbrev pub minute_count : Limits → ℕ → ℕ → ℕ
minute_count n k j =
    let job = (task_of n.instance j).minutes + minutes_between n.instance (task_of n.instance j).place (team_of n.instance k).home in
    let past = (team_of n.instance k).until + 1 - job in
    let stop = min past ((window_of n j).1 + 1) in
    if is_free_or_required (pair_of n k j) && (bit_and (task_of n.instance j).skills (team_of n.instance k).skills == (task_of n.instance j).skills)
    then stop - first_minute n k j else 0

-- a minute from the first one on, of as many as are counted
pub record IsMinuteOf (n : Limits) (k j t : ℕ) : Type 0 where
  pub known : j < tasks_in n
  pub from : first_minute n k j ≤ t
  pub until : t < first_minute n k j + minute_count n k j

-- the tasks that team k may begin
abbrev pub open_tasks : Limits → ℕ → List ℕ
open_tasks n k = filter (λ j. nat_lt 0 (minute_count n k j)) (range_with_len 0 (tasks_in n))

-- the tasks that have a required pair
abbrev pub priced : Limits → List ℕ
priced n = filter (has_required n) (range_with_len 0 (tasks_in n))

-- the teams that the node requires at task j
abbrev pub required_teams : Limits → ℕ → List ℕ
required_teams n j = filter (λ k. is_required (pair_of n k j)) (range_with_len 0 (teams_in n))

-- the numbers of which a fact holds, rising
pub record IsListOf (P : ℕ → Type 0) (xs : List ℕ) : Type 0 where
  pub rising : IsStrictlyIncreasing xs
  pub each : (x : ℕ) → Contains xs x ↔ P x
