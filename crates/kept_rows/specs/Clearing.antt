-- the replacement of all rows but one
use Rattle.std.specs.Prelude.{◌≡◌, ◌≢◌, ◌<◌, ℕ, pos, ◌<ℤ◌, List, [], length, slice_index_or}
use Rattle.crew_num.specs.declared.Overflow.{Overflow}
use Rattle.search_terms.specs.Rows.{Row, number}
use Rattle.search_terms.specs.Pivot.{IsReplaced}
use Rattle.kept_rows.specs.Replacement.{IsFirstFault, IsLowest}

abbrev pub at_row : List Row → ℕ → Row
at_row rows h = slice_index_or rows h []

-- rows of one length and in lowest terms with their basic places, and the row h as pivot row with a positive number at v
pub record CanClear (rows : List Row) (basis : List ℕ) (pivot : Row) (h v : ℕ) : Type 0 where
  pub count : length basis ≡ length rows
  pub known : h < length rows
  pub row : at_row rows h ≡ pivot
  pub place : v < length pivot
  pub entry : pos 0 <ℤ number pivot v
  pub widths : (i : ℕ) → i < length rows → length (at_row rows i) ≡ length pivot
  pub basic : (i : ℕ) → i < length rows → slice_index_or basis i 0 < length pivot
  pub positive : (i : ℕ) → i < length rows → pos 0 <ℤ number (at_row rows i) (slice_index_or basis i 0)
  pub lowest : (i : ℕ) → i < length rows → IsLowest (at_row rows i)
  pub idle : (i : ℕ) → i < length rows → i ≢ h → number pivot (slice_index_or basis i 0) ≡ pos 0

-- each row but the row h is replaced
pub record AreCleared (pivot : Row) (h v : ℕ) (rows new : List Row) : Type 0 where
  pub count : length new ≡ length rows
  pub kept : at_row new h ≡ at_row rows h
  pub replaced : (i : ℕ) → i < length rows → i ≢ h → IsReplaced pivot v (at_row rows i) (at_row new i)

-- an operation of the replacement of a row leaves the range
pub record IsClearingFault (pivot : Row) (h v : ℕ) (rows : List Row) (f : Overflow) : Type 0 where
  pub i : ℕ
  pub known : i < length rows
  pub other : i ≢ h
  pub first : IsFirstFault pivot v (at_row rows i) f
