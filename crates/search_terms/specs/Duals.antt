-- the prices, extras and worths of a row of the value, over its basic entry: the dual solution of the rows
use Rattle.std.specs.Prelude.{◌≡◌, ◌<◌, ◌==◌, ℕ, ℤ, pos, ◌-ℤ◌, ◌*ℤ◌, ◌≤ℤ◌, List, [], ◌∷◌, if◌then◌else◌}
use Rattle.std.specs.Int.{int_min, int_max}
use Rattle.crew_terms.specs.Limits.{Limits, Route, tasks_in, teams_in, has_required}
use Rattle.crew_terms.specs.Leaf.{Prices, IsOnRequired, pi_of, rho_of, task_price, rewards, worth_of, earned}
use Rattle.crew_terms.specs.Total.{total}
use Rattle.search_terms.specs.declared.Place.TheVariants.{Shortage, Missed, Unused}
use Rattle.share_terms.specs.declared.TheConstants.{BIG_M}
use Rattle.search_terms.specs.declared.TheConstants.{VALUE}
use Rattle.search_terms.specs.Rows.{Row, number}
use Rattle.search_terms.specs.Opening.{OpensWith, places, dual}

-- the prices of tasks and the extras of required pairs are the dual numbers of their rows, over the value's basic entry
pub record AreDuals (n : Limits) (value : Row) (prices : Prices) : Type 0 where
  pub priced : IsOnRequired n prices
  pub tasks : (h j : ℕ) → OpensWith n h (Shortage j) → pi_of prices j ≡ dual (places n) value h
  pub pairs : (h k j : ℕ) → OpensWith n h (Missed k j) → rho_of prices k j ≡ dual (places n) value h

-- the worths of teams are minus the dual numbers of their rows
pub record AreDualWorths (n : Limits) (value : Row) (worths : List ℤ) : Type 0 where
  pub teams : (h k : ℕ) → OpensWith n h (Unused k) → worth_of worths k ≡ pos 0 -ℤ dual (places n) value h

-- the greater of 0 and the best reward of team k's routes among these
abbrev pub best_reward : Prices → List Route → ℕ → ℤ
best_reward p [] k = pos 0
best_reward p (r ∷ rs) k = if k == r.team then int_max (rewards (earned p k) r.visits) (best_reward p rs k) else best_reward p rs k

-- the term of a task, at prices of which `whole` make the cost of leaving it unassigned
abbrev pub term_over : Limits → ℤ → Prices → ℕ → ℤ
term_over n whole p j = if has_required n j then task_price n p j else int_min whole (task_price n p j)

-- the sum of the prices of pairs
abbrev pub extras : Limits → Prices → ℤ
extras n p = total (teams_in n) (λ k. total (tasks_in n) (λ j. rho_of p k j))

-- not more than most, either way
pub record IsUpTo (most z : ℤ) : Type 0 where
  pub least : (pos 0 -ℤ most) ≤ℤ z
  pub greatest : z ≤ℤ most

-- prices and extras, over the value's basic entry, lie within the penalty of 0
pub record AreUpToPenalty (n : Limits) (value : Row) (prices : Prices) : Type 0 where
  pub tasks : (j : ℕ) → j < tasks_in n → IsUpTo (number value VALUE *ℤ pos BIG_M) (pi_of prices j)
  pub pairs : (k j : ℕ) → k < teams_in n → j < tasks_in n → IsUpTo (number value VALUE *ℤ pos BIG_M) (rho_of prices k j)
