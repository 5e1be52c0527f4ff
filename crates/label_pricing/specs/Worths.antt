-- the worths of all teams
use Rattle.std.specs.Prelude.{◌≡◌, ◌<◌, ℕ, ℤ, List, length}
use Rattle.crew_terms.specs.Limits.{Limits, teams_in}
use Rattle.crew_terms.specs.Leaf.{Prices, IsWorth, worth_of, earned}

-- for each team its worth
pub record AreWorths (n : Limits) (p : Prices) (worths : List ℤ) : Type 0 where
  pub count : length worths ≡ teams_in n
  pub each : (k : ℕ) → k < teams_in n → IsWorth n k (earned p k) (worth_of worths k)
