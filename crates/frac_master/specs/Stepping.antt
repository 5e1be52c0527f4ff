-- one pivot
use Rattle.std.specs.Prelude.{◌≡◌, ◌<◌, Bool, true, false, ℕ, length}
use Rattle.crew_num.specs.declared.Overflow.{Overflow}
use Rattle.crew_num.specs.Exact.{IsOverflow}
use Rattle.search_terms.specs.Rows.{Rows, row_of, AreBasic}
use Rattle.search_terms.specs.Pivot.{IsBounding, IsImproving, IsOptimal, IsPivot}
use Rattle.search_terms.specs.Overflows.{IsOfPivot}
use Rattle.kept_rows.specs.Replacement.{IsLowest}

-- rows that can be pivoted as long as a variable has a negative reduced cost
pub record CanStep (t : Rows) : Type 0 where
  pub basic : AreBasic t
  pub bounded : (v : ℕ) → IsImproving t v → ((h : ℕ) → IsBounding t v h → ⊥) → ⊥
  pub lowest : (i : ℕ) → i < length t.rows → IsLowest (row_of t i)

-- the overflow is of the next pivot
pub record IsPivotFault (t : Rows) (f : Overflow) : Type 0 where
  pub leaves : IsOverflow f
  pub how : IsOfPivot t f

-- the next pivot was made, or there is none
abbrev pub Steps : Rows → Rows → Bool → Type 0
Steps t next true = IsPivot t next
Steps t next false = IsOptimal t × (next ≡ t)
