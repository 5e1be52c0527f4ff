-- what prices prove in a node
use Rattle.std.specs.Prelude.{◌≤◌, ℕ, ℤ, List}
use Rattle.crew_terms.specs.Limits.{Limits, tasks_in}
use Rattle.crew_terms.specs.Leaf.{Prices}
use Rattle.crew_terms.specs.Tree.{ProvesIn}

-- with some worths and potentials, the prices prove in the node that at least l tasks are unassigned
pub record PricesProve (n : Limits) (prices : Prices) (l : ℕ) : Type 0 where
  pub worths : List ℤ
  pub phi : ℕ → ℕ → ℕ → ℤ
  pub proved : ProvesIn n (record { prices = prices; worths = worths; phi = phi }) l

-- the prices q prove in the node what the prices p prove there
abbrev pub ProveAsMuch : Limits → Prices → Prices → Type 0
ProveAsMuch n q p = (l : ℕ) → l ≤ tasks_in n → PricesProve n p l → PricesProve n q l

-- the greatest number, of those up to the number of tasks, that the prices prove
pub record IsProvedCount (n : Limits) (prices : Prices) (l : ℕ) : Type 0 where
  pub most : l ≤ tasks_in n
  pub proved : PricesProve n prices l
  pub greatest : (m : ℕ) → m ≤ tasks_in n → PricesProve n prices m → m ≤ l
