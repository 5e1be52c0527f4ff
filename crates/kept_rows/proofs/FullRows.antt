-- the rows of which numbers are kept
use Rattle.std.proofs.Common.{◌≡◌, ◌≢◌, ◌<◌, ◌∙◌, ℕ, ℤ, List, [], length, set, get_or, map, ap, sym, subst, arith, All}
use Rattle.std.specs.Prelude.{pos, ◌<ℤ◌}
use Rattle.std.specs.Global.{Vec}
use Rattle.std.proofs.lemmas.List.{map-set, get_or-map, length-map}
use Rattle.std.proofs.lemmas.List.Elements.{All-set}
use Rattle.search_terms.specs.Rows.{Row, number}
use Rattle.kept_rows.specs.Clearing.{CanClear, IsClearingFault, at_row}
use Rattle.kept_rows.specs.Columns.{AreColumns, IsKeptRow, full, full_rows}
use Rattle.kept_rows.specs.Replaced.{CanReplace}
use Rattle.crew_num.specs.declared.Overflow.{Overflow}
use Rattle.kept_rows.specs.Replacement.{IsFirstFault, IsLowest}
use Rattle.kept_rows.specs.Table.{rows_of}
use Rattle.kept_rows.specs.declared.columns.Column.{Column}
use Rattle.kept_rows.proofs.Cleared.{IsClearedTo}
use Rattle.kept_rows.proofs.Entries.{full_length}

pub rows_length : (columns : List Column) (rows : List (Vec ℤ)) → length (full_rows columns rows) ≡ length rows
rows_length columns rows = length-map (rows_of rows) (full columns) ∙ length-map rows (λ (row : Vec ℤ). row.items)

pub row_is : (columns : List Column) (rows : List (Vec ℤ)) (i : ℕ) (d : Vec ℤ) → i < length rows → at_row (full_rows columns rows) i ≡ full columns (get_or rows i d).items
row_is columns rows i d lt =
    let f : Vec ℤ → List ℤ = λ row. row.items in
    let in' : i < length (rows_of rows) = omega (arith, length-map rows f) in
    get_or-map (full columns) (rows_of rows) i [] [] in' ∙ ap (full columns) (get_or-map f rows i d [] lt)

pub row_set : (columns : List Column) (rows : List (Vec ℤ)) (i : ℕ) (r : Vec ℤ) → full_rows columns (set rows i r) ≡ set (full_rows columns rows) i (full columns r.items)
row_set columns rows i r =
    ap (map (full columns)) (map-set (λ (row : Vec ℤ). row.items) rows i r) ∙ map-set (full columns) (rows_of rows) i r.items

pub kept_at : (w : ℕ) (columns : List Column) (rows : List (Vec ℤ)) (i : ℕ) (d : Vec ℤ) → i < length rows → All (IsKeptRow w columns) (rows_of rows)
    → IsKeptRow w columns (get_or rows i d).items
kept_at w columns rows i d lt all =
    let f : Vec ℤ → List ℤ = λ row. row.items in
    let in' : i < length (rows_of rows) = omega (arith, length-map rows f) in
    subst (IsKeptRow w columns) (get_or-map f rows i d [] lt) (all i [] in')

pub kept_set : (w : ℕ) (columns : List Column) (rows : List (Vec ℤ)) (i : ℕ) (r : Vec ℤ) → IsKeptRow w columns r.items → All (IsKeptRow w columns) (rows_of rows)
    → All (IsKeptRow w columns) (rows_of (set rows i r))
kept_set w columns rows i r k all =
    subst (All (IsKeptRow w columns)) (sym (map-set (λ (row : Vec ℤ). row.items) rows i r)) (All-set (IsKeptRow w columns) (rows_of rows) i r.items k all)

-- the first i rows but the row h are replaced, and of each so many numbers are kept
pub record AreClearedTo (w : ℕ) (columns : List Column) (pivot : Row) (h v : ℕ) (old rows : List (Vec ℤ)) (i : ℕ) : Type 0 where
  pub cleared : IsClearedTo (full columns pivot) h v (full_rows columns old) (full_rows columns rows) i
  pub kept : All (IsKeptRow w columns) (rows_of rows)

-- the row i can be replaced
pub record CanReplaceAt (w : ℕ) (columns : List Column) (pivot row : Row) (v basic : ℕ) (was : Row) : Type 0 where
  pub can : CanReplace w columns pivot row v basic
  pub lowest : IsLowest (full columns row)
  pub same : full columns row ≡ was

pub can_replace : (w : ℕ) (columns : List Column) (pivot : Row) (h v : ℕ) (old rows : List (Vec ℤ)) (basis : List ℕ) (i : ℕ) (d : Vec ℤ) → i < length rows → i ≢ h
    → CanClear (full_rows columns old) basis (full columns pivot) h v → AreColumns w columns → IsKeptRow w columns pivot → AreClearedTo w columns pivot h v old rows i
    → CanReplaceAt w columns pivot (get_or rows i d).items v (get_or basis i 0) (at_row (full_rows columns old) i)
can_replace w columns pivot h v old rows basis i d lt ne can cs kp a =
    let same : full columns (get_or rows i d).items ≡ at_row (full_rows columns old) i = sym (row_is columns rows i d lt) ∙ a.cleared.kept i (omega arith) in
    let in' : i < length (full_rows columns old) = omega (arith, a.cleared.count, rows_length columns rows) in
    record {
      can = record {
        combine = cs;
        pivot_kept = kp;
        row_kept = kept_at w columns rows i d lt a.kept;
        place = omega (arith, can.place, full_length columns pivot);
        known = omega (arith, can.basic i in', full_length columns pivot);
        entry = can.entry;
        positive = subst (λ row. pos 0 <ℤ number row (get_or basis i 0)) (sym same) (can.positive i in');
        idle = can.idle i in' ne;
      };
      lowest = subst IsLowest (sym same) (can.lowest i in');
      same = same;
    }

pub clearing_fault : (columns : List Column) (pivot : Row) (h v : ℕ) (old : List (Vec ℤ)) (i : ℕ) (f : Overflow) → i < length old → i ≢ h
    → IsFirstFault (full columns pivot) v (at_row (full_rows columns old) i) f → IsClearingFault (full columns pivot) h v (full_rows columns old) f
clearing_fault columns pivot h v old i f lt ne first = record { i = i; known = omega (arith, rows_length columns old); other = ne; first = first }
