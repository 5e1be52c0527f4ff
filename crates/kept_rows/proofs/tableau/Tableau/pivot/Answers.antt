use Rattle.std.proofs.Common.{◌∙◌, suc, refl, ap, sym, subst, length, get_or, set, All}
use Rattle.std.specs.Vec.{with_items}
use Rattle.std.proofs.lemmas.List.{with_items_is}
use Rattle.std.proofs.lemmas.Result.{err_from_is_err_and}
use Rattle.search_terms.specs.Rows.{Rows, row_of}
use Rattle.search_terms.specs.Pivot.{IsPivotAt}
use Rattle.kept_rows.specs.Clearing.{AreCleared, CanClear, IsClearingFault}
use Rattle.kept_rows.specs.Columns.{IsKeptRow, full, full_rows}
use Rattle.kept_rows.specs.Kept.{kept}
use Rattle.kept_rows.specs.State.{CanPivot, State}
use Rattle.kept_rows.specs.Table.{rows_of}
use Rattle.kept_rows.proofs.FullRows.{kept_at, row_is}
use Rattle.kept_rows.proofs.Pivoting.{can_clear, columns_of, known_row, pivot_at}
use Rattle.kept_rows.proofs.tableau.Tableau.pivot.Goals as goal

pub copy_from_slice-requires : goal.copy_from_slice-requires
copy_from_slice-requires c =
    let a = c.self.inside in
    let w = suc (length a.openers.items) in
    let can = subst (λ (s : State). CanPivot s.rows c.args.v c.args.h) (sym c.self.view_is) c.requires in
    let h = known_row a.columns.items a.rows.items (kept a).rows c.args.v c.args.h refl can in
    let k = kept_at w a.columns.items a.rows.items c.args.h c.index.result.now h c.self.invariant.rows in
    let first = c.deref.ensures.value ∙ ap (λ r. r.items) c.index.ensures in
    a.room.ok.0 ∙ c.self.invariant.room ∙ sym (ap length first ∙ k.wide)

pub clear-requires-clause-can : goal.clear-requires-clause-can
clear-requires-clause-can c =
    let a = c.self.inside in
    let w = suc (length a.openers.items) in
    let can = subst (λ (s : State). CanPivot s.rows c.args.v c.args.h) (sym c.self.view_is) c.requires in
    let h = known_row a.columns.items a.rows.items (kept a).rows c.args.v c.args.h refl can in
    let k = kept_at w a.columns.items a.rows.items c.args.h c.index.result.now h c.self.invariant.rows in
    let first = c.deref.ensures.value ∙ ap (λ r. r.items) c.index.ensures in
    let piv = c.deref-4.ensures.value ∙ c.copy_from_slice.ensures.items ∙ first in
    let p = (get_or a.rows.items c.args.h c.index.result.now).items in
    let row = row_is a.columns.items a.rows.items c.args.h c.index.result.now h in
    let r = can_clear (kept a).rows c.args.v c.args.h (full a.columns.items p) can row in
    rw (c.deref-2.ensures.value, c.deref_mut.ensures.value, c.deref-3.ensures.value) (subst (λ q. CanClear (full_rows a.columns.items a.rows.items) a.basis.items (full a.columns.items q) c.args.h c.args.v) (sym piv) r)

pub clear-requires-clause-columns : goal.clear-requires-clause-columns
clear-requires-clause-columns c =
    let a = c.self.inside in
    let w = suc (length a.openers.items) in
    let can = subst (λ (s : State). CanPivot s.rows c.args.v c.args.h) (sym c.self.view_is) c.requires in
    let h = known_row a.columns.items a.rows.items (kept a).rows c.args.v c.args.h refl can in
    let k = kept_at w a.columns.items a.rows.items c.args.h c.index.result.now h c.self.invariant.rows in
    let first = c.deref.ensures.value ∙ ap (λ r. r.items) c.index.ensures in
    let piv = c.deref-4.ensures.value ∙ c.copy_from_slice.ensures.items ∙ first in
    let p = (get_or a.rows.items c.args.h c.index.result.now).items in
    let row = row_is a.columns.items a.rows.items c.args.h c.index.result.now h in
    rw c.deref-2.ensures.value (columns_of a.columns.items a.openers.items (length c.deref-4.result.now) (ap length piv ∙ k.wide) c.self.invariant.known c.self.invariant.homes)

pub clear-requires-clause-pivot : goal.clear-requires-clause-pivot
clear-requires-clause-pivot c =
    let a = c.self.inside in
    let w = suc (length a.openers.items) in
    let can = subst (λ (s : State). CanPivot s.rows c.args.v c.args.h) (sym c.self.view_is) c.requires in
    let h = known_row a.columns.items a.rows.items (kept a).rows c.args.v c.args.h refl can in
    let k = kept_at w a.columns.items a.rows.items c.args.h c.index.result.now h c.self.invariant.rows in
    let first = c.deref.ensures.value ∙ ap (λ r. r.items) c.index.ensures in
    let piv = c.deref-4.ensures.value ∙ c.copy_from_slice.ensures.items ∙ first in
    let p = (get_or a.rows.items c.args.h c.index.result.now).items in
    let row = row_is a.columns.items a.rows.items c.args.h c.index.result.now h in
    let l = subst (IsKeptRow w a.columns.items) (sym piv) k in
    rw c.deref-2.ensures.value (subst (λ n. IsKeptRow n a.columns.items c.deref-4.result.now) (sym l.wide) l)

pub invariant_of-self : goal.invariant_of-self
invariant_of-self c =
    let a = c.self.inside in
    let w = suc (length a.openers.items) in
    let can = subst (λ (s : State). CanPivot s.rows c.args.v c.args.h) (sym c.self.view_is) c.requires in
    let h = known_row a.columns.items a.rows.items (kept a).rows c.args.v c.args.h refl can in
    let k = kept_at w a.columns.items a.rows.items c.args.h c.index.result.now h c.self.invariant.rows in
    let first = c.deref.ensures.value ∙ ap (λ r. r.items) c.index.ensures in
    let piv = c.deref-4.ensures.value ∙ c.copy_from_slice.ensures.items ∙ first in
    let p = (get_or a.rows.items c.args.h c.index.result.now).items in
    let row = row_is a.columns.items a.rows.items c.args.h c.index.result.now h in
    let long = c.clear.auto.rows ∙ ap length c.deref_mut.ensures.value ∙ sym a.rows.ok.0 in
    let items = with_items_is a.rows c.clear.new.rows long in
    record {
      some = c.self.invariant.some;
      height = ap length items ∙ c.clear.auto.rows ∙ ap length c.deref_mut.ensures.value ∙ c.self.invariant.height;
      known = c.self.invariant.known;
      homes = c.self.invariant.homes;
      rows = subst (λ l. All (IsKeptRow w a.columns.items) (rows_of l)) (sym items)
          (subst (λ n. All (IsKeptRow n a.columns.items) (rows_of c.clear.new.rows)) (ap length piv ∙ k.wide)
          (subst (λ cs. All (IsKeptRow (length c.deref-4.result.now) cs) (rows_of c.clear.new.rows)) c.deref-2.ensures.value c.in_err-clear.ensures.kept));
      room = ap length (c.copy_from_slice.ensures.items ∙ first) ∙ k.wide;
      reach = c.self.invariant.reach;
    }

pub returns-in_err-clear-clause-pivot : goal.returns-in_err-clear-clause-pivot
returns-in_err-clear-clause-pivot c =
    let a = c.self.inside in
    let w = suc (length a.openers.items) in
    let can = subst (λ (s : State). CanPivot s.rows c.args.v c.args.h) (sym c.self.view_is) c.requires in
    let h = known_row a.columns.items a.rows.items (kept a).rows c.args.v c.args.h refl can in
    let k = kept_at w a.columns.items a.rows.items c.args.h c.index.result.now h c.self.invariant.rows in
    let first = c.deref.ensures.value ∙ ap (λ r. r.items) c.index.ensures in
    let piv = c.deref-4.ensures.value ∙ c.copy_from_slice.ensures.items ∙ first in
    let p = (get_or a.rows.items c.args.h c.index.result.now).items in
    let row = row_is a.columns.items a.rows.items c.args.h c.index.result.now h in
    let q = err_from_is_err_and c.from_residual.result c.from_residual.ensures.1 in
    let e = rw (c.deref-2.ensures.value, c.deref_mut.ensures.value) at c.in_err-clear.ensures.cleared in
    let f = subst (λ r. IsClearingFault r c.args.h c.args.v (full_rows a.columns.items a.rows.items) c.in_err-clear.field-0.0) (ap (full a.columns.items) piv ∙ sym row) e in
    rw (q.1, q.2) (subst (λ (s : State). IsClearingFault (row_of s.rows c.args.h) c.args.h c.args.v s.rows.rows c.in_err-clear.field-0.0) c.self.view_is f)

pub invariant_of-self-2 : goal.invariant_of-self-2
invariant_of-self-2 c =
    let a = c.self.inside in
    let w = suc (length a.openers.items) in
    let can = subst (λ (s : State). CanPivot s.rows c.args.v c.args.h) (sym c.self.view_is) c.requires in
    let h = known_row a.columns.items a.rows.items (kept a).rows c.args.v c.args.h refl can in
    let k = kept_at w a.columns.items a.rows.items c.args.h c.index.result.now h c.self.invariant.rows in
    let first = c.deref.ensures.value ∙ ap (λ r. r.items) c.index.ensures in
    let piv = c.deref-4.ensures.value ∙ c.copy_from_slice.ensures.items ∙ first in
    let p = (get_or a.rows.items c.args.h c.index.result.now).items in
    let row = row_is a.columns.items a.rows.items c.args.h c.index.result.now h in
    let long = c.clear.auto.rows ∙ ap length c.deref_mut.ensures.value ∙ sym a.rows.ok.0 in
    let items = with_items_is a.rows c.clear.new.rows long in
    record {
      some = c.self.invariant.some;
      height = ap length items ∙ c.clear.auto.rows ∙ ap length c.deref_mut.ensures.value ∙ c.self.invariant.height;
      known = c.self.invariant.known;
      homes = c.self.invariant.homes;
      rows = subst (λ l. All (IsKeptRow w a.columns.items) (rows_of l)) (sym items)
          (subst (λ n. All (IsKeptRow n a.columns.items) (rows_of c.clear.new.rows)) (ap length piv ∙ k.wide)
          (subst (λ cs. All (IsKeptRow (length c.deref-4.result.now) cs) (rows_of c.clear.new.rows)) c.deref-2.ensures.value c.in_ok-clear.ensures.kept));
      room = ap length (c.copy_from_slice.ensures.items ∙ first) ∙ k.wide;
      reach = c.self.invariant.reach;
    }

pub returns-clause-pivot : goal.returns-clause-pivot
returns-clause-pivot c =
    let a = c.self.inside in
    let w = suc (length a.openers.items) in
    let can = subst (λ (s : State). CanPivot s.rows c.args.v c.args.h) (sym c.self.view_is) c.requires in
    let h = known_row a.columns.items a.rows.items (kept a).rows c.args.v c.args.h refl can in
    let k = kept_at w a.columns.items a.rows.items c.args.h c.index.result.now h c.self.invariant.rows in
    let first = c.deref.ensures.value ∙ ap (λ r. r.items) c.index.ensures in
    let piv = c.deref-4.ensures.value ∙ c.copy_from_slice.ensures.items ∙ first in
    let p = (get_or a.rows.items c.args.h c.index.result.now).items in
    let row = row_is a.columns.items a.rows.items c.args.h c.index.result.now h in
    let long = c.clear.auto.rows ∙ ap length c.deref_mut.ensures.value ∙ sym a.rows.ok.0 in
    let items = with_items_is a.rows c.clear.new.rows long in
    let e = rw (c.deref-2.ensures.value, c.deref_mut.ensures.value) at c.in_ok-clear.ensures.cleared in
    let f = subst (λ r. AreCleared r c.args.h c.args.v (full_rows a.columns.items a.rows.items) (full_rows a.columns.items c.clear.new.rows)) (ap (full a.columns.items) piv) e in
    let g = subst (λ l. AreCleared (full a.columns.items p) c.args.h c.args.v (full_rows a.columns.items a.rows.items) (full_rows a.columns.items l)) (sym items) f in
    let next : Rows = record { rows = full_rows a.columns.items (with_items a.rows c.clear.new.rows).items; basis = set a.basis.items c.args.h c.args.v } in
    subst (λ (s : State). IsPivotAt s.rows c.args.v c.args.h next) c.self.view_is (pivot_at (kept a).rows next c.args.v c.args.h (full a.columns.items p) row g refl)
