-- where the rounds of a master end
use Rattle.std.specs.Prelude.{◌≤◌, ◌<◌, ◌↔◌, ℕ, ℤ, List}
use Rattle.crew_terms.specs.Limits.{Limits, Route, tasks_in, teams_in}
use Rattle.crew_terms.specs.Leaf.{Prices, Proves, bound_of, worth_of}
use Rattle.label_pricing.specs.Worths.{AreWorths}
use Rattle.search_terms.specs.Earned.{AreRounded}
use Rattle.search_terms.specs.Proven.{PricesProve, IsProvedCount}
use Rattle.master_run.specs.State.{RunState}
use Rattle.master_run.specs.Along.{IsOver}
use Rattle.node_solver.specs.Meeting.{IsMet}

-- the prices are those of the run, and each team earns its worth at them by a column that is held
pub record IsSettled (n : Limits) (columns : List Route) (run : RunState) (prices : Prices) : Type 0 where
  pub over : IsOver n columns run
  pub rounded : AreRounded n run.master.rows prices
  pub worths : List ℤ
  pub worth : AreWorths n prices worths
  pub decides : (l : ℕ) → l ≤ tasks_in n → PricesProve n prices l ↔ Proves (bound_of n prices worths) l
  pub met : (k : ℕ) → k < teams_in n → IsMet n columns k prices (worth_of worths k)

-- the prices prove so much and no more; where that is less than `now`, the run has settled at them
pub record IsAnswered (n : Limits) (now : ℕ) (columns : List Route) (run : RunState) (prices : Prices) (proved : ℕ) : Type 0 where
  pub count : IsProvedCount n prices proved
  pub settled : proved < now → IsSettled n columns run prices
