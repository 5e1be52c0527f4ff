-- teams that price alike, each by the first of them
use Rattle.std.specs.Prelude.{◌≡◌, ◌≢◌, ◌≤◌, ◌<◌, ℕ, ℤ, List, length, slice_index_or}
use Rattle.crew_terms.specs.Limits.{Limits, teams_in}
use Rattle.crew_terms.specs.Leaf.{Prices, IsWorth, worth_of, earned}
use Rattle.label_pricing.specs.Alike.{AreAlike}

abbrev pub first_of : List ℕ → ℕ → ℕ
first_of firsts k = slice_index_or firsts k 0

-- for each team a team up to it that prices alike, or itself; and that team's is itself
pub record AreFirsts (n : Limits) (firsts : List ℕ) : Type 0 where
  pub count : length firsts ≡ teams_in n
  pub early : (k : ℕ) → k < teams_in n → first_of firsts k ≤ k
  pub own : (k : ℕ) → k < teams_in n → first_of firsts (first_of firsts k) ≡ first_of firsts k
  pub alike : (k : ℕ) → k < teams_in n → first_of firsts k ≢ k → AreAlike n (first_of firsts k) k

-- the worths of the teams whose first teams stand before team h are known
pub record AreKnownBefore (n : Limits) (p : Prices) (firsts : List ℕ) (h : ℕ) (worths : List ℤ) : Type 0 where
  pub count : length worths ≡ teams_in n
  pub each : (k : ℕ) → k < teams_in n → first_of firsts k < h → IsWorth n k (earned p k) (worth_of worths k)

-- so are those of the teams before team m whose first team is team h
pub record AreKnownUpTo (n : Limits) (p : Prices) (firsts : List ℕ) (h m : ℕ) (worths : List ℤ) : Type 0 where
  pub before : AreKnownBefore n p firsts h worths
  pub each : (k : ℕ) → k < m → k < teams_in n → first_of firsts k ≡ h → IsWorth n k (earned p k) (worth_of worths k)
