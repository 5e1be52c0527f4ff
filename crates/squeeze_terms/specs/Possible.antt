-- the minutes at which enough teams could begin a task
use Rattle.std.specs.Prelude.{◌+◌, ◌-◌, ◌&&◌, ◌==◌, ℕ, Bool, List, length, nat_lt, nat_le, filter, count_by}
use Rattle.std.specs.List.{range_with_len}
use Rattle.crew_terms.specs.Instance.{Instance, task_of}
use Rattle.crew_terms.specs.Limits.{Limits, root_limits, teams_in}
use Rattle.crew_terms.specs.Minutes.{first_minute, minute_count}

-- team k may begin task j at minute t
abbrev pub may_begin : Limits → ℕ → ℕ → ℕ → Bool
may_begin n k j t = nat_le (first_minute n k j) t && nat_lt t (first_minute n k j + minute_count n k j)

-- how many teams may begin task j at minute t
abbrev pub able_count : Limits → ℕ → ℕ → ℕ
able_count n j t = count_by (λ k. may_begin n k j t) (range_with_len 0 (teams_in n))

-- as many teams as task j needs may begin it at minute t
abbrev pub is_possible : Limits → ℕ → ℕ → Bool
is_possible n j t = nat_le (task_of n.instance j).teams (able_count n j t)

-- the possible minutes of task j at the root, of those of its own window; frozen jobs leave one at most
abbrev pub possible_minutes : Instance → ℕ → List ℕ
possible_minutes i j = filter (is_possible (root_limits i) j) (range_with_len (task_of i j).earliest ((task_of i j).latest + 1 - (task_of i j).earliest))

-- how many tasks have no possible minute
abbrev pub impossible_count : Instance → ℕ
impossible_count i = count_by (λ j. length (possible_minutes i j) == 0) (range_with_len 0 (length i.tasks))
