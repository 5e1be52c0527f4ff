-- a row's numbers as combinations of the kept ones
use Rattle.std.specs.Prelude.{◌≡◌, ◌<◌, ℕ, ℤ, pos, ◌*ℤ◌, List, [], ◌∷◌, length, map, slice_index, All}
use Rattle.std.specs.Global.{Vec}
use Rattle.crew_num.specs.Exact.{FitsI128}
use Rattle.crew_terms.specs.Total.{total}
use Rattle.search_terms.specs.Rows.{Row, number}
use Rattle.kept_rows.specs.Sums.{sum_to}
use Rattle.kept_rows.specs.Table.{rows_of}
use Rattle.kept_rows.specs.declared.columns.Column.{Column}

-- the number in the column of the row of which these numbers are kept
abbrev pub entry_in : Row → Column → ℤ
entry_in row c = sum_to (length c.at.items) row c.at.items c.numbers.items

-- it is a combination of so many kept numbers
pub record IsKnownIn (w : ℕ) (c : Column) : Type 0 where
  pub count : length c.numbers.items ≡ length c.at.items
  pub known : (h : ℕ) → h < length c.at.items → slice_index c.at.items h < w

-- the column has each kept number so many times
pub record Combines (numbers : List ℤ) (c : Column) : Type 0 where
  pub known : IsKnownIn (length numbers) c
  pub sum : (row : Row) → entry_in row c ≡ total (length numbers) (λ h. number row h *ℤ number numbers h)

-- the column has the kept number at this place once
pub record IsOnly (place : ℕ) (c : Column) : Type 0 where
  pub at : c.at.items ≡ place ∷ []
  pub numbers : c.numbers.items ≡ pos 1 ∷ []

-- the row of which these numbers are kept
abbrev pub full : List Column → Row → Row
full columns row = map (λ c. entry_in row c) columns

-- the rows of which these are kept
abbrev pub full_rows : List Column → List (Vec ℤ) → List Row
full_rows columns rows = map (full columns) (rows_of rows)

-- each of the kept numbers, of which there are w, is the row's number at some variable
pub record AreColumns (w : ℕ) (columns : List Column) : Type 0 where
  pub known : All (IsKnownIn w) columns
  pub home : (h : ℕ) → h < w → (j : ℕ) × (j < length columns) × ((row : Row) → number (full columns row) j ≡ number row h)

-- so many numbers are kept, and the row has numbers of 128 bits
pub record IsKeptRow (w : ℕ) (columns : List Column) (row : Row) : Type 0 where
  pub wide : length row ≡ w
  pub fits : (j : ℕ) → j < length columns → FitsI128 (number (full columns row) j)
