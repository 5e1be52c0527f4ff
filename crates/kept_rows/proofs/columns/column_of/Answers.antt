use Rattle.std.proofs.Common.{◌≡◌, ◌∙◌, ap, sym, rules, pos, FitsSigned, get_or, to_z}
use Rattle.std.specs.Int.{w128}
use Rattle.std.proofs.lemmas.Int.{to_z-of_z}
use Rattle.search_terms.specs.Rows.{number}
use Rattle.kept_rows.proofs.Sparse.{sparse_more, sparse_skip}
use Rattle.kept_rows.proofs.columns.column_of.Goals as goal
use Rattle.kept_rows.proofs.columns.column_of.Goals.{then-number-ne0+in_ok-push+in_ok-push-2, else-number-ne0}

pub loop-h-preserved : goal.loop-h-preserved
loop-h-preserved c =
    elim c.if-number-ne0.branch [
      | then-number-ne0+in_ok-push+in_ok-push-2 w ↦
          let a : FitsSigned w128 (get_or c.args.numbers.now c.loop-h.h (pos 0)) = search rules in
          rw (w.at-is, w.times-is, w.in_ok-push.ensures.items, w.in_ok-push-2.ensures.items)
          (sparse_more c.args.numbers.now c.loop-h.h c.loop-h.at.items c.loop-h.times.items _ (to_z-of_z w128 (get_or c.args.numbers.now c.loop-h.h (pos 0)) a) c.loop-h.invariant)
      | else-number-ne0 w ↦
          let a : FitsSigned w128 (get_or c.args.numbers.now c.loop-h.h (pos 0)) = search rules in
          let zero : number c.args.numbers.now c.loop-h.h ≡ pos 0 = sym (to_z-of_z w128 (get_or c.args.numbers.now c.loop-h.h (pos 0)) a) ∙ ap (to_z w128) w.if-number-ne0.false in
          rw (w.at-is, w.times-is) (sparse_skip c.args.numbers.now c.loop-h.h c.loop-h.at.items c.loop-h.times.items zero c.loop-h.invariant)
    ]
