use Rattle.crew_terms.specs.declared.Visit.{Visit}
use Rattle.std.proofs.Common.{get_or, ◌≡◌, ◌*◌, ◌+ℤ◌, ◌∙◌, subst, sym, to_z, rules, w64}
use Rattle.std.specs.Int.{w128}
use Rattle.std.specs.Prelude.{FitsSigned}
use Rattle.std.proofs.lemmas.List.{get_or_default}
use Rattle.std.proofs.lemmas.Int.{to_z-of_z}
use Rattle.crew_terms.specs.Leaf.{reward}
use Rattle.crew_terms.specs.declared.TheConstants.{MOST_PRICE}
use Rattle.potentials.specs.Sums.{IsBoundedBy, up_to_more}
use Rattle.node_solver.proofs.Earning.{earned_more}
use Rattle.node_solver.proofs.earnings.earnings.Goals as goal

pub loop-visit-preserved : goal.loop-visit-preserved
loop-visit-preserved c =
    let p = c.args.prices.now in
    let d : Visit = record { task = 0; start = 0 } in
    let v = get_or c.args.visits.now c.loop-visit.visit-index d in
    let next : FitsSigned w64 c.reward.result = search rules in
    let same : c.from-sum.result ≡ c.reward.result = c.from-sum.ensures ∙ to_z-of_z w64 c.reward.result next in
    let is : c.from-sum.result ≡ reward p c.args.k v.task = same ∙ c.reward.ensures.sum in
    let range : IsBoundedBy (2 * MOST_PRICE) c.from-sum.result = subst (IsBoundedBy (2 * MOST_PRICE)) (sym same) c.reward.ensures.range in
    let one : FitsSigned w128 c.from-sum.result = search rules in
    let sum : FitsSigned w128 (to_z w128 c.loop-visit.sum-bits +ℤ c.from-sum.result) = search rules in
    simp to_z-of_z record {
      sum = earned_more p c.args.k c.args.visits.now c.loop-visit.visit-index v _ _ _ c.loop-visit-test.true (get_or_default c.args.visits.now c.loop-visit.visit-index v d c.loop-visit-test.true) is c.loop-visit.invariant.sum;
      range = up_to_more (2 * MOST_PRICE) c.loop-visit.visit-index _ _ c.loop-visit.invariant.range range;
    }
