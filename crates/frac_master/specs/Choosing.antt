-- how the row that leaves is chosen
use Rattle.std.specs.Prelude.{◌≡◌, ◌≤◌, ◌<◌, ◌⊎◌, ℕ, ℤ, ◌*ℤ◌, ◌<ℤ◌, Option, MatchOption, Result, MatchResult}
use Rattle.crew_num.specs.declared.Overflow.{Overflow}
use Rattle.crew_num.specs.Exact.{IsOverflow}
use Rattle.search_terms.specs.Overflows.{IsOfChoice}
use Rattle.search_terms.specs.Rows.{Rows}
use Rattle.search_terms.specs.Pivot.{IsBounding, IsLeast, IsLeaving}

-- a/b is less than c/d, or as great where x is less than y
abbrev pub IsBefore : ℤ → ℤ → ℕ → ℤ → ℤ → ℕ → Type 0
IsBefore a b x c d y = ((a *ℤ d) <ℤ (c *ℤ b)) ⊎ (((a *ℤ d) ≡ (c *ℤ b)) × (x < y))

-- a/b is greater than c/d, or as great where x isn't less than y
abbrev pub IsBehind : ℤ → ℤ → ℕ → ℤ → ℤ → ℕ → Type 0
IsBehind a b x c d y = ((c *ℤ b) <ℤ (a *ℤ d)) ⊎ (((a *ℤ d) ≡ (c *ℤ b)) × (y ≤ x))

-- a product of the choice leaves the range
pub record IsRatioFault (t : Rows) (v : ℕ) (f : Overflow) : Type 0 where
  pub leaves : IsOverflow f
  pub how : IsOfChoice t v f

-- the best of the first i rows
abbrev pub IsBest : Rows → ℕ → ℕ → Option ℕ → Type 0
IsBest t v i best = MatchOption best ((k : ℕ) → k < i → IsBounding t v k → ⊥) (IsLeast t v i)

-- the row that leaves, or that no row bounds the variable, or the overflow of the choice
abbrev pub Leaves : Result (Option ℕ) Overflow → Rows → ℕ → Type 0
Leaves r t v = MatchResult r (λ o. MatchOption o ((h : ℕ) → IsBounding t v h → ⊥) (IsLeaving t v)) (IsRatioFault t v)
