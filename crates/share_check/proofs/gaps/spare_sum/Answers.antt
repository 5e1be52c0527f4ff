use Rattle.std.proofs.Common.{pos, ap, sym, ◌∙◌, arith}
use Rattle.std.proofs.lemmas.Int.{ints}
use Rattle.std.specs.Prelude.{slice_index_or}
use Rattle.crew_num.specs.Mixed.{value}
use Rattle.share_terms.specs.Shares.{unassigned_of}
use Rattle.share_check.proofs.Parts.{next_total}
use Rattle.share_check.proofs.gaps.spare_sum.Goals as goal

pub loop-j-preserved : goal.loop-j-preserved
loop-j-preserved c =
    let j = c.loop-j.j in
    let whole = c.args.whole in
    let inv = c.loop-j.invariant in
    let m = c.mixed_add-sum.ensures.mixed in
    let a = inv.0.at_most in
    let b = c.share_of.ensures.mixed.at_most in
    let top = m.at_most in (
      record { not_negative = m.not_negative; at_most = omega (arith, ints); below = m.below },
      λ f u. next_total j (λ i. pos (unassigned_of f i)) (value c.mixed_add-sum.result whole) (value c.loop-j.sum whole) (value c.share_of.result whole) c.mixed_add-sum.ensures.value (inv.1 f u)
          (c.share_of.ensures.value ∙ ap pos (c.get.ensures.exact ∙ ap (λ l. slice_index_or l j 0) (sym u))),
    )
