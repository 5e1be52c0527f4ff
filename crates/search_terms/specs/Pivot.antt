-- pivots: which variable enters, which row it enters at, and what the rows are then
use Rattle.std.specs.Prelude.{◌≡◌, ◌≢◌, ◌≤◌, ◌<◌, ℕ, zero, suc, ℤ, pos, ◌-ℤ◌, ◌*ℤ◌, ◌≤ℤ◌, ◌<ℤ◌, length, slice_set, unsigned_abs}
use Rattle.std.specs.Int.{◌∣◌}
use Rattle.search_terms.specs.declared.TheConstants.{RIGHT, VALUE}
use Rattle.search_terms.specs.Rows.{Row, Rows, number, row_of, basic_of, last, value_row, width}

-- the variable at place v has a negative reduced cost
pub record IsImproving (t : Rows) (v : ℕ) : Type 0 where
  pub variable : VALUE < v
  pub known : v < width t
  pub positive : pos 0 <ℤ number (value_row t) v

-- no variable has a negative reduced cost
abbrev pub IsOptimal : Rows → Type 0
IsOptimal t = (v : ℕ) → IsImproving t v → ⊥

-- the lowest variable of negative reduced cost (Bland's rule)
pub record IsEntering (t : Rows) (v : ℕ) : Type 0 where
  pub improves : IsImproving t v
  pub lowest : (u : ℕ) → IsImproving t u → v ≤ u

-- row h bounds the variable at place v
pub record IsBounding (t : Rows) (v h : ℕ) : Type 0 where
  pub known : h < last t
  pub positive : pos 0 <ℤ number (row_of t h) v

-- the ratio of right side and number at place v is at most as great in row h as in row i
abbrev pub IsRatioUpTo : Rows → ℕ → ℕ → ℕ → Type 0
IsRatioUpTo t v h i = (number (row_of t h) RIGHT *ℤ number (row_of t i) v) ≤ℤ (number (row_of t i) RIGHT *ℤ number (row_of t h) v)

-- row g has the least ratio of the first i rows, and the lowest basic variable of those
pub record IsLeast (t : Rows) (v i g : ℕ) : Type 0 where
  pub below : g < i
  pub bounds : IsBounding t v g
  pub least : (k : ℕ) → k < i → IsBounding t v k → IsRatioUpTo t v g k
  pub lowest : (k : ℕ) → k < i → IsBounding t v k → IsRatioUpTo t v k g → basic_of t g ≤ basic_of t k

-- the row of least ratio, and among those the row whose basic variable is lowest (Bland's rule)
pub record IsLeaving (t : Rows) (v h : ℕ) : Type 0 where
  pub bounds : IsBounding t v h
  pub least : (i : ℕ) → IsBounding t v i → IsRatioUpTo t v h i
  pub lowest : (i : ℕ) → IsBounding t v i → IsRatioUpTo t v i h → basic_of t h ≤ basic_of t i

-- p * row - e * pivot at place j, where p and e are the two rows' numbers at place v
abbrev pub cleared : Row → ℕ → Row → ℕ → ℤ
cleared pivot v row j = (number pivot v *ℤ number row j) -ℤ (number row v *ℤ number pivot j)

-- the new row is p * row - e * pivot, divided by the greatest common factor of its numbers
pub record IsReplaced (pivot : Row) (v : ℕ) (row new : Row) : Type 0 where
  pub factor : ℕ
  pub some : 0 < factor
  pub width : length new ≡ length row
  pub each : (j : ℕ) → j < length row → pos factor *ℤ number new j ≡ cleared pivot v row j
  pub greatest : (d : ℕ) → ((j : ℕ) → j < length row → d ∣ unsigned_abs (cleared pivot v row j)) → d ∣ factor

-- the variable at place v enters at row h
pub record IsPivotAt (t : Rows) (v h : ℕ) (next : Rows) : Type 0 where
  pub count : length next.rows ≡ length t.rows
  pub kept : row_of next h ≡ row_of t h
  pub replaced : (i : ℕ) → i < length t.rows → i ≢ h → IsReplaced (row_of t h) v (row_of t i) (row_of next i)
  pub basis : next.basis ≡ slice_set t.basis h v

-- the next pivot leads from the rows t to the rows next
pub record IsPivot (t next : Rows) : Type 0 where
  pub v : ℕ
  pub h : ℕ
  pub enters : IsEntering t v
  pub leaves : IsLeaving t v h
  pub pivot : IsPivotAt t v h next

-- so many pivots lead from t to next
abbrev pub ArePivots : ℕ → Rows → Rows → Type 0
ArePivots zero t next = t ≡ next
ArePivots (suc n) t next = (mid : Rows) × ArePivots n t mid × IsPivot mid next
