use Rattle.std.proofs.Common.{◌≡◌, ◌<◌, ◌+◌, ◌∙◌, arith, sym, ap, subst, length, set, get_or}
use Rattle.std.specs.Vec.{with_items}
use Rattle.std.proofs.lemmas.List.{with_items_is}
use Rattle.std.proofs.lemmas.Result.{err_from_is_err_and}
use Rattle.search_terms.specs.Pivot.{IsReplaced}
use Rattle.kept_rows.specs.Columns.{IsKeptRow, full, full_rows}
use Rattle.kept_rows.specs.Replaced.{CanReplace}
use Rattle.kept_rows.specs.Replacement.{IsFirstFault, IsLowest}
use Rattle.kept_rows.proofs.Cleared.{IsClearedTo, cleared_more, cleared_none, cleared_skip}
use Rattle.kept_rows.proofs.FullRows.{can_replace, clearing_fault, kept_set, row_is, row_set, rows_length}
use Rattle.kept_rows.proofs.clearing.clear.Goals as goal
use Rattle.kept_rows.proofs.clearing.clear.Goals.{then-i-h+in_ok-clear_row, else-i-h}

pub loop-i-init : goal.loop-i-init
loop-i-init c = record {
  cleared = cleared_none (full c.args.columns.now c.args.pivot.now) c.args.h c.args.v (full_rows c.args.columns.now c.args.rows.now);
  kept = c.requires.rows;
}

pub clear_row-requires-clause-can : goal.clear_row-requires-clause-can
clear_row-requires-clause-can c =
    let value = c.deref_mut.ensures.value in
    let k = can_replace (length c.args.pivot.now) c.args.columns.now c.args.pivot.now c.args.h c.args.v c.args.rows.now c.loop-i.rows c.args.basis.now c.loop-i.i c.index-rows-i.result
    (omega arith) c.if-i-h.true c.requires.can c.requires.columns c.requires.pivot c.loop-i.invariant in
    subst (λ row. CanReplace (length c.args.pivot.now) c.args.columns.now c.args.pivot.now row c.args.v (get_or c.args.basis.now c.loop-i.i 0)) (sym value) k.can

pub clear_row-requires-clause-lowest : goal.clear_row-requires-clause-lowest
clear_row-requires-clause-lowest c =
    let value = c.deref_mut.ensures.value in
    let k = can_replace (length c.args.pivot.now) c.args.columns.now c.args.pivot.now c.args.h c.args.v c.args.rows.now c.loop-i.rows c.args.basis.now c.loop-i.i c.index-rows-i.result
    (omega arith) c.if-i-h.true c.requires.can c.requires.columns c.requires.pivot c.loop-i.invariant in
    subst (λ row. IsLowest (full c.args.columns.now row)) (sym value) k.lowest

pub returns-in_err-clear_row-clause-cleared : goal.returns-in_err-clear_row-clause-cleared
returns-in_err-clear_row-clause-cleared c =
    let q = err_from_is_err_and c.from_residual.result c.from_residual.ensures.1 in
    let value = c.deref_mut.ensures.value in
    let k = can_replace (length c.args.pivot.now) c.args.columns.now c.args.pivot.now c.args.h c.args.v c.args.rows.now c.loop-i.rows c.args.basis.now c.loop-i.i c.index-rows-i.result
    (omega arith) c.if-i-h.true c.requires.can c.requires.columns c.requires.pivot c.loop-i.invariant in
    let f = subst (λ row. IsFirstFault (full c.args.columns.now c.args.pivot.now) c.args.v row c.in_err-clear_row.field-0.0) (ap (full c.args.columns.now) value ∙ k.same) c.in_err-clear_row.ensures.replaced in
    rw (q.1, q.2) (clearing_fault c.args.columns.now c.args.pivot.now c.args.h c.args.v c.args.rows.now c.loop-i.i c.in_err-clear_row.field-0.0 (omega arith) c.if-i-h.true f)

pub returns-in_err-clear_row-clause-kept : goal.returns-in_err-clear_row-clause-kept
returns-in_err-clear_row-clause-kept c =
    let value = c.deref_mut.ensures.value in
    let k = can_replace (length c.args.pivot.now) c.args.columns.now c.args.pivot.now c.args.h c.args.v c.args.rows.now c.loop-i.rows c.args.basis.now c.loop-i.i c.index-rows-i.result
    (omega arith) c.if-i-h.true c.requires.can c.requires.columns c.requires.pivot c.loop-i.invariant in
    let v = get_or c.loop-i.rows c.loop-i.i c.index-rows-i.result in
    let new = c.clear_row.new.row in
    let same = c.in_err-clear_row.ensures.stays ∙ value in
    let long : length new ≡ v.len = ap length same ∙ sym v.ok.0 in
    let is = with_items_is v new long ∙ same in
    kept_set (length c.args.pivot.now) c.args.columns.now c.loop-i.rows c.loop-i.i (with_items v new)
    (subst (IsKeptRow (length c.args.pivot.now) c.args.columns.now) (sym is) k.can.row_kept) c.loop-i.invariant.kept

pub loop-i-preserved : goal.loop-i-preserved
loop-i-preserved c =
    elim c.if-i-h.branch [
      | then-i-h+in_ok-clear_row w ↦
          let columns = c.args.columns.now in
          let pivot = c.args.pivot.now in
          let here : c.loop-i.i < length c.loop-i.rows = omega arith in
          let in' : c.loop-i.i < length (full_rows columns c.loop-i.rows) = omega (arith, rows_length columns c.loop-i.rows) in
          let value = w.deref_mut.ensures.value in
          let n = w.in_ok-clear_row.ensures.replaced in
          let v = get_or c.loop-i.rows c.loop-i.i w.index-rows-i.result in
          let new = w.clear_row.new.row in
          let long : length new ≡ v.len = w.clear_row.auto.row ∙ ap length value ∙ sym v.ok.0 in
          let items = with_items_is v new long in
          let e = subst (λ row. IsReplaced (full columns pivot) c.args.v row (full columns new)) (ap (full columns) value ∙ sym (row_is columns c.loop-i.rows c.loop-i.i w.index-rows-i.result here)) n.replaced in
          let m = cleared_more (full columns pivot) c.args.h c.args.v (full_rows columns c.args.rows.now) (full_rows columns c.loop-i.rows) c.loop-i.i (full columns new) in' w.if-i-h.true c.loop-i.invariant.cleared e in
          let is = row_set columns c.loop-i.rows c.loop-i.i (with_items v new) ∙ ap (λ r. set (full_rows columns c.loop-i.rows) c.loop-i.i (full columns r)) items in
          rw w.rows-is (record {
            cleared = subst (λ rows. IsClearedTo (full columns pivot) c.args.h c.args.v (full_rows columns c.args.rows.now) rows (c.loop-i.i + 1)) (sym is) m;
            kept = kept_set (length pivot) columns c.loop-i.rows c.loop-i.i (with_items v new) (subst (IsKeptRow (length pivot) columns) (sym items) n.kept) c.loop-i.invariant.kept;
          })
      | else-i-h w ↦
          let columns = c.args.columns.now in
          let m = cleared_skip (full columns c.args.pivot.now) c.args.h c.args.v (full_rows columns c.args.rows.now) (full_rows columns c.loop-i.rows) c.loop-i.i w.if-i-h.false c.loop-i.invariant.cleared in
          rw w.rows-is (record { cleared = m; kept = c.loop-i.invariant.kept })
    ]
