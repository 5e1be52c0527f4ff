use Rattle.std.proofs.Common.{◌≡◌, ◌+◌, ◌<◌, ◌∙◌, suc, rules, arith, ap, sym, FitsSigned, get_or, pos, length, slice_index, to_z}
use Rattle.std.specs.Prelude.{◌+ℤ◌, ◌*ℤ◌}
use Rattle.std.specs.Int.{w128, int_wrap}
use Rattle.std.proofs.lemmas.Int.{to_z-of_z, int_wrap-add_left, int_wrap_fits}
use Rattle.std.proofs.lemmas.List.{get_or_default}
use Rattle.search_terms.specs.Rows.{number}
use Rattle.kept_rows.specs.Columns.{entry_in}
use Rattle.kept_rows.specs.Sums.{sum_to}
use Rattle.kept_rows.proofs.columns.entry.Goals as goal

pub loop-h-preserved : goal.loop-h-preserved
loop-h-preserved c =
    let row = c.args.row.now in
    let at = c.args.column.now.at.items in
    let numbers = c.args.column.now.numbers.items in
    let h = c.loop-h.h in
    let len : c.len-h-end.result ≡ length at = search rules in
    let in' : h < length at = omega (arith, c.loop-h-test.true) in
    let in_n : h < length numbers = omega (arith, c.requires.known.count) in
    let i : c.index.result.now ≡ slice_index at h = c.index.ensures ∙ get_or_default at h c.index.result.now 0 in' in
    let n : c.index-in-loop-h.result.now ≡ number numbers h = c.index-in-loop-h.ensures ∙ get_or_default numbers h c.index-in-loop-h.result.now (pos 0) in_n in
    let a : FitsSigned w128 (get_or row c.index.result.now (pos 0)) = search rules in
    let b : FitsSigned w128 c.index-in-loop-h.result.now = search rules in
    let z : FitsSigned w128 c.wrapped-sum.result = search rules in
    let e = rw (to_z-of_z w128 (get_or row c.index.result.now (pos 0)) a, to_z-of_z w128 c.index-in-loop-h.result.now b) at c.wrapped-sum.ensures in
    let x = number row (slice_index at h) *ℤ number numbers h in
    let f : get_or row c.index.result.now (pos 0) *ℤ c.index-in-loop-h.result.now ≡ x =
    ap (λ k. get_or row k (pos 0) *ℤ c.index-in-loop-h.result.now) i ∙ ap (λ y. number row (slice_index at h) *ℤ y) n in
    to_z-of_z w128 c.wrapped-sum.result z ∙ e ∙ ap (λ y. int_wrap w128 (to_z w128 c.loop-h.sum-bits +ℤ y)) f
    ∙ ap (λ y. int_wrap w128 (y +ℤ x)) c.loop-h.invariant ∙ int_wrap-add_left w128 (sum_to h row at numbers) x ∙ (let q : h + 1 ≡ suc h = omega arith in ap (λ k. int_wrap w128 (sum_to k row at numbers)) (sym q))

pub returns : goal.returns
returns c =
    let row = c.args.row.now in
    let at = c.args.column.now.at.items in
    let numbers = c.args.column.now.numbers.items in
    let len : c.len-h-end.result ≡ length at = search rules in
    let e : c.loop-h.h ≡ length at = omega (arith, c.loop-h-test.false, c.loop-h.auto.h-end) in
    c.loop-h.invariant ∙ ap (λ k. int_wrap w128 (sum_to k row at numbers)) e ∙ int_wrap_fits w128 (entry_in row c.args.column.now) c.requires.fits
