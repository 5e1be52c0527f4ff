-- what a pivot asks and gives
use Rattle.std.proofs.Common.{◌≡◌, ◌<◌, ◌∙◌, ℕ, ℤ, suc, List, length, set, get_or, ap, sym, subst, arith, All}
use Rattle.std.specs.Prelude.{pos, ◌<ℤ◌}
use Rattle.std.specs.Global.{Vec}
use Rattle.search_terms.specs.Rows.{Row, Rows, number, row_of, basic_of, width}
use Rattle.search_terms.specs.Pivot.{IsPivotAt, IsReplaced}
use Rattle.kept_rows.specs.Clearing.{AreCleared, CanClear}
use Rattle.kept_rows.specs.Columns.{AreColumns, IsKnownIn, full_rows}
use Rattle.kept_rows.proofs.FullRows.{rows_length}
use Rattle.kept_rows.specs.Kept.{HaveHomes}
use Rattle.kept_rows.specs.State.{CanPivot}
use Rattle.kept_rows.specs.declared.columns.Column.{Column}

pub can_clear : (t : Rows) (v h : ℕ) (p : Row) → CanPivot t v h → row_of t h ≡ p → CanClear t.rows t.basis p h v
can_clear t v h p can e = record {
  count = can.basic.count;
  known = known;
  row = e;
  place = omega (arith, can.known, wide);
  entry = subst (λ row. pos 0 <ℤ number row v) e can.bounds.positive;
  widths = λ i lt. can.basic.widths i lt ∙ sym wide;
  basic = λ i lt. let k = can.basic.known i lt in omega (arith, wide);
  positive = can.basic.positive;
  lowest = can.lowest;
  idle = λ i lt ne. subst (λ row. number row (basic_of t i) ≡ pos 0) e (can.basic.alone i h lt known ne);
}
  where
    known : h < length t.rows
    known = let k = can.bounds.known in let s = can.basic.some in omega arith

    wide : length p ≡ width t
    wide = ap length (sym e) ∙ can.basic.widths h known

pub columns_of : (columns : List Column) (openers : List ℕ) (w : ℕ) → w ≡ suc (length openers) → All (IsKnownIn (suc (length openers))) columns → HaveHomes columns openers → AreColumns w columns
columns_of columns openers w e known homes = record {
  known = subst (λ k. All (IsKnownIn k) columns) (sym e) known;
  home = λ h lt. let in' : h < suc (length openers) = omega arith in (get_or openers h 0, homes.known h in', λ row. homes.each h row in');
}

pub pivot_at : (t next : Rows) (v h : ℕ) (p : Row) → row_of t h ≡ p → AreCleared p h v t.rows next.rows → next.basis ≡ set t.basis h v → IsPivotAt t v h next
pivot_at t next v h p e c b = record {
  count = c.count;
  kept = c.kept;
  replaced = λ i lt ne. subst (λ row. IsReplaced row v (row_of t i) (row_of next i)) (sym e) (c.replaced i lt ne);
  basis = b;
}

pub known_row : (columns : List Column) (rows : List (Vec ℤ)) (t : Rows) (v h : ℕ) → t.rows ≡ full_rows columns rows → CanPivot t v h → h < length rows
known_row columns rows t v h e can =
    let k = can.bounds.known in
    let s = can.basic.some in
    let l = ap length e ∙ rows_length columns rows in
    omega arith
