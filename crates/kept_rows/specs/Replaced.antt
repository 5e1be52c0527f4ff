-- the replacement of what is kept of a row
use Rattle.std.specs.Prelude.{◌≡◌, ◌<◌, ◌≤◌, ◌≢◌, ◌+◌, ◌*◌, ℕ, ℤ, pos, ◌-ℤ◌, ◌*ℤ◌, ◌<ℤ◌, List, length, unsigned_abs, Option, IfSome, All}
use Rattle.crew_num.specs.Exact.{StepsFit}
use Rattle.search_terms.specs.Rows.{Row, number}
use Rattle.search_terms.specs.Pivot.{IsReplaced}
use Rattle.kept_rows.specs.Columns.{AreColumns, IsKeptRow, entry_in, full}
use Rattle.kept_rows.specs.declared.columns.Column.{Column}
use Rattle.kept_rows.specs.declared.bounds.Reach.{Reach}
use Rattle.kept_rows.specs.declared.replacing.Lowered.{Lowered}

-- the new row is p * row - e * pivot
pub record IsCombined (p e : ℤ) (pivot row new : Row) : Type 0 where
  pub width : length new ≡ length row
  pub each : (j : ℕ) → j < length row → number new j ≡ (p *ℤ number row j) -ℤ (e *ℤ number pivot j)

-- rows of which w numbers are kept; the variable at place v enters at the pivot row, and that at place basic is the basic one
-- of the other row
pub record CanReplace (w : ℕ) (columns : List Column) (pivot row : Row) (v basic : ℕ) : Type 0 where
  pub combine : AreColumns w columns
  pub pivot_kept : IsKeptRow w columns pivot
  pub row_kept : IsKeptRow w columns row
  pub place : v < length columns
  pub known : basic < length columns
  pub entry : pos 0 <ℤ number (full columns pivot) v
  pub positive : pos 0 <ℤ number (full columns row) basic
  pub idle : number (full columns pivot) basic ≡ pos 0

-- each step of the replacement lies in i128, at all variables
abbrev pub AllFit : List Column → Row → Row → ℤ → ℤ → Type 0
AllFit columns pivot row p e = (j : ℕ) → j < length columns → StepsFit p (number (full columns row) j) e (number (full columns pivot) j)

-- the row is replaced, and of the new one so many numbers are kept
pub record IsNewRow (w : ℕ) (columns : List Column) (pivot row new : Row) (v : ℕ) : Type 0 where
  pub kept : IsKeptRow w columns new
  pub replaced : IsReplaced (full columns pivot) v (full columns row) (full columns new)

-- the column's number is at most so many times the greatest kept number but that at the place `last`, and so many times that one
abbrev pub IsWithin : ℕ → Reach → Column → Type 0
IsWithin last r c = (row : Row) (others : ℕ) → ((i : ℕ) → i ≢ last → unsigned_abs (number row i) ≤ others)
    → unsigned_abs (entry_in row c) ≤ r.others * others + r.last * unsigned_abs (number row last)

abbrev pub AreWithin : ℕ → Option Reach → List Column → Type 0
AreWithin last reach columns = IfSome reach (λ r. All (IsWithin last r) columns)

-- no number of the row is greater
abbrev pub IsMost : List Column → Row → Option ℕ → Type 0
IsMost columns row most = IfSome most (λ m. (j : ℕ) → j < length columns → unsigned_abs (number (full columns row) j) ≤ m)

-- p and e are so many times these
pub record AreLowered (p e : ℤ) (l : Lowered) : Type 0 where
  pub factor : ℕ
  pub some : 0 < factor
  pub raised : pos factor *ℤ l.p ≡ p
  pub taken : pos factor *ℤ l.e ≡ e
