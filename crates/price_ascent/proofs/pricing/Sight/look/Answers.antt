use Rattle.std.proofs.Common.{rules, ap, ◌∙◌, arith, length}
use Rattle.std.specs.Int.{w128}
use Rattle.std.specs.Prelude.{FitsSigned}
use Rattle.std.proofs.lemmas.Int.{to_z-of_z}
use Rattle.crew_terms.specs.Leaf.{bound_of}
use Rattle.price_ascent.proofs.pricing.Sight.look.Goals as goal

pub returns-clause-bound : goal.returns-clause-bound
returns-clause-bound c =
    let n = c.args.limits.now.limits in
    let fits : FitsSigned w128 c.bound.result = search rules in
    let a = c.teams-h-end.ensures.count in
    let b = ap (λ i. length i.teams) c.instance.ensures.instance in
    let d = c.loop-h-test.false in
    let is = c.loop-h.invariant.worths in
    record {
      worths = c.loop-h.self.worths.items;
      are_worths = record { count = is.count; each = λ k l. is.each k l (let e = c.requires.firsts.early k l in omega arith) };
      is_bound = to_z-of_z w128 c.bound.result fits ∙ c.bound.ensures ∙ ap (bound_of n c.args.prices.now) c.deref.ensures.value;
    }
