-- what is kept of opening rows
use Rattle.std.specs.Prelude.{◌≡◌, ◌≢◌, ◌<◌, ◌++◌, ◌∷◌, [], ℕ, ℤ, List, length, map, slice_index_or as get_or}
use Rattle.search_terms.specs.Rows.{Row, number}
use Rattle.search_terms.specs.declared.TheConstants.{RIGHT}
use Rattle.kept_rows.specs.Columns.{Combines, IsOnly}
use Rattle.kept_rows.specs.declared.columns.Column.{Column}

-- the numbers of the rows at place j
abbrev pub column_numbers : List Row → ℕ → List ℤ
column_numbers rows j = map (λ row. number row j) rows

-- the row's numbers at the openers, and the right side
abbrev pub kept_of : List ℕ → Row → List ℤ
kept_of openers row = map (number row) openers ++ number row RIGHT ∷ []

-- the right side is kept behind the numbers at the openers; another variable is a combination of these
pub record IsOpeningColumn (rows : List Row) (j : ℕ) (c : Column) : Type 0 where
  pub right : j ≡ RIGHT → IsOnly (length rows) c
  pub other : j ≢ RIGHT → Combines (column_numbers rows j) c

pub record AreOpeningColumns (rows : List Row) (width : ℕ) (columns : List Column) : Type 0 where
  pub count : length columns ≡ width
  pub each : (j : ℕ) (d : Column) → j < width → IsOpeningColumn rows j (get_or columns j d)
