use Rattle.std.proofs.Common.{◌^◌, ◌≡◌, ◌+ℤ◌, ◌∙◌, subst, sym, to_z, rules, get_or, pos, w64}
use Rattle.std.specs.Int.{w128}
use Rattle.std.specs.Prelude.{FitsSigned}
use Rattle.std.proofs.lemmas.Int.{to_z-of_z}
use Rattle.crew_terms.specs.Leaf.{worth_of}
use Rattle.potentials.specs.Sums.{IsBoundedBy, up_to_more}
use Rattle.minute_prices.proofs.Sums.{sum_more, number_up_to}
use Rattle.minute_prices.proofs.bounds.sum_of_worths.Goals as goal

pub loop-worth-preserved : goal.loop-worth-preserved
loop-worth-preserved c =
    let fits : FitsSigned w64 (get_or c.args.worths.now c.loop-worth.worth-index (pos 0)) = search rules in
    let is : c.from-sum.result ≡ worth_of c.args.worths.now c.loop-worth.worth-index = c.from-sum.ensures ∙ to_z-of_z w64 _ fits in
    let range : IsBoundedBy (2 ^ 63) c.from-sum.result = subst (IsBoundedBy (2 ^ 63)) (sym is) (number_up_to _ fits) in
    let one : FitsSigned w128 c.from-sum.result = search rules in
    let sum : FitsSigned w128 (to_z w128 c.loop-worth.sum-bits +ℤ c.from-sum.result) = search rules in
    simp to_z-of_z record {
      sum = sum_more (worth_of c.args.worths.now) c.loop-worth.worth-index _ _ c.loop-worth.invariant.sum is;
      range = up_to_more (2 ^ 63) c.loop-worth.worth-index _ _ c.loop-worth.invariant.range range;
    }
