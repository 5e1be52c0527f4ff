-- the bound of prices with the worths of all teams
use Rattle.std.specs.Prelude.{◌≡◌, ◌<◌, ◌≤◌, ℕ, ℤ, List, length}
use Rattle.crew_terms.specs.Limits.{Limits, tasks_in}
use Rattle.crew_terms.specs.Leaf.{Prices, AreInRange, IsOnRequired, IsWorth, Proves, bound_of, worth_of, earned}
use Rattle.potentials.specs.Prices.{ArePricesOf}
use Rattle.label_pricing.specs.Worths.{AreWorths}

-- the bound of the prices, with the worth of each team
pub record IsBoundAt (n : Limits) (p : Prices) (bound : ℤ) : Type 0 where
  pub worths : List ℤ
  pub are_worths : AreWorths n p worths
  pub is_bound : bound ≡ bound_of n p worths

-- the worths of the first teams, as many as the list has
abbrev pub AreFirstWorths : Limits → Prices → List ℤ → Type 0
AreFirstWorths n p worths = (k : ℕ) → k < length worths → IsWorth n k (earned p k) (worth_of worths k)

-- prices of the node, 0 on pairs that it doesn't require
pub record AreNodePrices (n : Limits) (p : Prices) : Type 0 where
  pub of_node : ArePricesOf n p
  pub on_required : IsOnRequired n p

-- prices of the node in their range, with their bound
pub record ArePricedAt (n : Limits) (p : Prices) (bound : ℤ) : Type 0 where
  pub prices : AreNodePrices n p
  pub range : AreInRange p
  pub is_bound : IsBoundAt n p bound

-- the greatest number, of those up to the number of tasks, that the bound proves
pub record IsMostProved (n : Limits) (bound : ℤ) (l : ℕ) : Type 0 where
  pub most : l ≤ tasks_in n
  pub proves : Proves bound l
  pub greatest : (m : ℕ) → m ≤ tasks_in n → Proves bound m → m ≤ l
