-- the prices of the first tasks of an instance
use Rattle.std.specs.Prelude.{◌≡◌, ◌<◌, ℕ, length}
use Rattle.crew_terms.specs.Instance.{Instance, task_of}
use Rattle.crew_terms.specs.Leaf.{IsPrice}
use Rattle.squeeze_terms.specs.MinutePrices.{MinutePrices, price_at, price_count, prices_of}

-- as many prices as each of the first tasks has, each in the range of prices
pub record ArePriced (i : Instance) (p : MinutePrices) : Type 0 where
  pub counts : (j : ℕ) → j < length p → length (prices_of p j) ≡ price_count (task_of i j)
  pub range : (j x : ℕ) → IsPrice (price_at p j x)
