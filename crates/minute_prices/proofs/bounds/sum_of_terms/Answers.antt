use Rattle.std.proofs.Common.{◌*◌, ◌+ℤ◌, to_z, rules}
use Rattle.std.specs.Int.{w128}
use Rattle.std.specs.Prelude.{FitsSigned}
use Rattle.std.proofs.lemmas.Int.{to_z-of_z}
use Rattle.crew_terms.specs.declared.TheConstants.{MOST_PRICE, MOST_TEAMS_PER_TASK}
use Rattle.potentials.specs.Sums.{up_to_more}
use Rattle.squeeze_terms.specs.Bound.{minute_term}
use Rattle.minute_prices.proofs.Sums.{sum_more}
use Rattle.minute_prices.proofs.bounds.sum_of_terms.Goals as goal

pub loop-j-preserved : goal.loop-j-preserved
loop-j-preserved c =
    let one : FitsSigned w128 c.term_at-sum.result = search rules in
    let sum : FitsSigned w128 (to_z w128 c.loop-j.sum-bits +ℤ c.term_at-sum.result) = search rules in
    simp to_z-of_z record {
      sum = sum_more (minute_term c.args.instance.now c.args.prices.now) c.loop-j.j _ _ c.loop-j.invariant.sum c.term_at-sum.ensures.term;
      range = up_to_more (MOST_TEAMS_PER_TASK * MOST_PRICE) c.loop-j.j _ _ c.loop-j.invariant.range c.term_at-sum.ensures.range;
    }
