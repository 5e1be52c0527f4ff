-- the windows of a tree's nodes end within two days
use Rattle.std.proofs.Common.{◌≡◌, ◌<◌, ◌≤◌, ◌+◌, ◌-◌, ℕ, arith, true}
use Rattle.std.specs.Prelude.{All, nat_lt}
use Rattle.std.specs.List.{AllByRecursion, range_with_len}
use Rattle.std.proofs.lemmas.Bool.Decides.{Decides-ltb}
use Rattle.std.proofs.lemmas.List.Elements.{All-weaker, filter_passes, recursion_from_All}
use Rattle.crew_terms.specs.Minutes.{first_minute, minute_count, open_tasks}
use Rattle.crew_terms.specs.Limits.{Limits, tasks_in}
use Rattle.crew_terms.specs.declared.Choice.TheVariants as choices
use Rattle.crew_terms.specs.declared.TheConstants.{LAST_MINUTE}
use Rattle.dossier_laws.specs.Days.{IsDay, last_minute, minutes_end}

-- ---- the minutes at which a team may begin a task

pub tasks_open : (n : Limits) (k : ℕ) → All (λ j. 0 < minute_count n k j) (open_tasks n k)
tasks_open n k = All-weaker (λ j. nat_lt 0 (minute_count n k j) ≡ true) (λ j. 0 < minute_count n k j) (λ j e. (Decides-ltb 0 (minute_count n k j)).0 e) (open_tasks n k)
    (filter_passes (λ j. nat_lt 0 (minute_count n k j)) (range_with_len 0 (tasks_in n)))

-- a task that the team may begin, at minutes of two days
abbrev pub IsOpen : Limits → ℕ → ℕ → Type 0
IsOpen n k j = (0 < minute_count n k j) × (first_minute n k j + minute_count n k j ≤ LAST_MINUTE + 1)

pub tasks_in_time : (n : Limits) (k : ℕ) → IsDay n → AllByRecursion (IsOpen n k) (open_tasks n k)
tasks_in_time n k day = recursion_from_All (IsOpen n k) (open_tasks n k)
    (All-weaker (λ j. 0 < minute_count n k j) (IsOpen n k) (λ j l. (l, let a = minutes_end n k j l in let b = last_minute n j day in omega arith)) (open_tasks n k) (tasks_open n k))
