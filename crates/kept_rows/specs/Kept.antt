-- what is kept of rows
use Rattle.std.specs.Prelude.{◌≡◌, ◌<◌, ◌-◌, ℕ, suc, List, length, All, slice_index_or}
use Rattle.search_terms.specs.Rows.{Row, number}
use Rattle.kept_rows.specs.Columns.{IsKeptRow, IsKnownIn, full, full_rows}
use Rattle.kept_rows.specs.Replaced.{AreWithin}
use Rattle.kept_rows.specs.State.{State}
use Rattle.kept_rows.specs.Table.{rows_of}
use Rattle.kept_rows.specs.declared.columns.Column.{Column}
use Rattle.kept_rows.specs.declared.tableau.Tableau.TheInside.{Inside}

abbrev pub kept : Inside → State
kept a = record { rows = record { rows = full_rows a.columns.items a.rows.items; basis = a.basis.items }; openers = a.openers.items }

-- the kept numbers are those at the openers, and last the right side, which has place 0
pub record HaveHomes (columns : List Column) (openers : List ℕ) : Type 0 where
  pub known : (h : ℕ) → h < suc (length openers) → slice_index_or openers h 0 < length columns
  pub each : (h : ℕ) (row : Row) → h < suc (length openers) → number (full columns row) (slice_index_or openers h 0) ≡ number row h

pub record IsKept (a : Inside) : Type 0 where
  pub some : 0 < length a.openers.items
  pub height : length a.rows.items ≡ length a.openers.items
  pub known : All (IsKnownIn (suc (length a.openers.items))) a.columns.items
  pub homes : HaveHomes a.columns.items a.openers.items
  pub rows : All (IsKeptRow (suc (length a.openers.items)) a.columns.items) (rows_of a.rows.items)
  pub room : length a.room.items ≡ suc (length a.openers.items)
  pub reach : AreWithin (length a.openers.items - 1) a.reach a.columns.items
