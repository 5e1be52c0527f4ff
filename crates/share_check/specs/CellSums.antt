-- sums of shares as they are kept
use Rattle.std.specs.Prelude.{◌≡◌, ◌≤◌, ◌<◌, ◌*◌, ◌≤ℤ◌, ◌<ℤ◌, ℕ, pos, List, length, slice_index_or}
use Rattle.crew_num.specs.declared.Mixed.{Mixed}
use Rattle.crew_num.specs.Mixed.{IsMixed, value}
use Rattle.crew_terms.specs.declared.Visit.{Visit}

-- the visit at a place
abbrev pub visit_at : List Visit → ℕ → Visit
visit_at visits i = slice_index_or visits i (record { task = 0; start = 0 })

-- the sum of n parts: it is told exactly below a thousand wholes, and else n is not below them
pub record IsSum (whole : ℕ) (sum : Mixed) (n : ℕ) : Type 0 where
  pub mixed : IsMixed sum whole (pos 1001)
  pub exact : sum.whole <ℤ pos 1000 → value sum whole ≡ pos n
  pub many : pos 1000 ≤ℤ sum.whole → 1000 * whole ≤ n

-- the sum at a place
abbrev pub sum_at : List Mixed → ℕ → Mixed
sum_at sums j = slice_index_or sums j (record { whole = pos 0; part = 0 })

-- the sum at each place j is that of f j parts
abbrev pub AreSums : ℕ → List Mixed → (ℕ → ℕ) → Type 0
AreSums whole sums f = (j : ℕ) → j < length sums → IsSum whole (sum_at sums j) (f j)
