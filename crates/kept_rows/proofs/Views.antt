-- the view of what is kept
use Rattle.std.proofs.Common.{◌≡◌, ◌<◌, ◌-◌, ◌∙◌, ℕ, ℤ, List, [], ◌∷◌, length, get_or, ap, arith}
use Rattle.std.specs.Global.{Vec}
use Rattle.search_terms.specs.Rows.{Rows, width}
use Rattle.kept_rows.specs.Columns.{full_rows}
use Rattle.kept_rows.specs.Clearing.{at_row}
use Rattle.kept_rows.specs.declared.columns.Column.{Column}
use Rattle.kept_rows.proofs.Entries.{full_length}
use Rattle.kept_rows.proofs.FullRows.{row_is, rows_length}

-- some row, where there is one
some_row : (rows : List (Vec ℤ)) → 0 < length rows → Vec ℤ
some_row [] lt = absurd (omega arith)
some_row (r ∷ rs) lt = r

pub row_wide : (columns : List Column) (rows : List (Vec ℤ)) (h : ℕ) → h < length rows → length (at_row (full_rows columns rows) h) ≡ length columns
row_wide columns rows h lt =
    let d = some_row rows (omega arith) in
    ap length (row_is columns rows h d lt) ∙ full_length columns (get_or rows h d).items

pub width_is : (columns : List Column) (rows : List (Vec ℤ)) (basis : List ℕ) (t : Rows) → 0 < length rows → t.rows ≡ full_rows columns rows → width t ≡ length columns
width_is columns rows basis t some e =
    let f = rows_length columns rows in
    ap (λ l. length (get_or l (length l - 1) [])) e ∙ row_wide columns rows (length (full_rows columns rows) - 1) (omega arith)
