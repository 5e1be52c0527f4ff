use Rattle.std.proofs.Common.{◌≡◌, ◌<◌, ◌∙◌, ap, subst, rules, arith, pos, FitsSigned, length, unsigned_abs, slice_index}
use Rattle.std.specs.Int.{w128}
use Rattle.std.proofs.lemmas.Int.{to_z-of_z}
use Rattle.std.proofs.lemmas.List.{get_or_default}
use Rattle.search_terms.specs.Rows.{number}
use Rattle.kept_rows.specs.Bounds.{IsFarther}
use Rattle.kept_rows.proofs.Reached.{within_more}
use Rattle.kept_rows.proofs.bounds.reach_of.Goals as goal

pub loop-h-preserved : goal.loop-h-preserved
loop-h-preserved c =
    let at = c.args.column.now.at.items in
    let numbers = c.args.column.now.numbers.items in
    let h = c.loop-h.h in
    let len : c.len-h-end.result ≡ length at = search rules in
    let in' : h < length at = omega (arith, c.loop-h-test.true) in
    let in_n : h < length numbers = omega (arith, c.requires) in
    let i : c.index.result.now ≡ slice_index at h = c.index.ensures ∙ get_or_default at h c.index.result.now 0 in' in
    let n : c.index-in-loop-h.result.now ≡ number numbers h = c.index-in-loop-h.ensures ∙ get_or_default numbers h c.index-in-loop-h.result.now (pos 0) in_n in
    let b : FitsSigned w128 c.index-in-loop-h.result.now = search rules in
    let e = (rw (to_z-of_z w128 c.index-in-loop-h.result.now b) at c.unsigned_abs.ensures.value) ∙ ap unsigned_abs n in
    within_more c.args.last c.loop-h.reach c.in_ok-more.more c.args.column.now h c.loop-h.invariant
    (subst (λ y. IsFarther c.loop-h.reach (slice_index at h) y c.args.last c.in_ok-more.more) e
    (subst (λ x. IsFarther c.loop-h.reach x c.unsigned_abs.result c.args.last c.in_ok-more.more) i c.in_ok-more.ensures))
