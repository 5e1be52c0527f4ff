use Rattle.std.proofs.Common.{rules, ℕ, ap, subst, sym, ◌∙◌, to_z, of_z}
use Rattle.std.specs.Int.{w128}
use Rattle.std.specs.Prelude.{FitsSigned, ◌↔◌}
use Rattle.std.proofs.lemmas.Int.{to_z-of_z}
use Rattle.crew_terms.specs.Leaf.{Proves, bound_of}
use Rattle.search_terms.specs.Proven.{PricesProve}
use Rattle.label_pricing.proofs.pricer.Pricer.proved.Goals as goal

pub returns-clause-decides : goal.returns-clause-decides
returns-clause-decides c l le =
    let n = c.args.limits.now.limits in
    let p = c.args.prices.now in
    let fits : FitsSigned w128 c.bound-bound.result = search rules in
    let bound = to_z-of_z w128 c.bound-bound.result fits ∙ c.bound-bound.ensures ∙ ap (bound_of n p) c.deref.ensures.value in
    subst (λ b. PricesProve n p l ↔ Proves b l) (sym bound)
    (c.worths_decide.ensures n p c.find_worths.new.worths.items l c.instance.ensures.is_instance c.tasks.ensures.limits.range c.requires.priced c.find_worths.ensures.worths)

pub returns-clause-count : goal.returns-clause-count
returns-clause-count c = record {
  most = c.most_proved.ensures.most;
  proved = (decides c.most_proved.result).1 c.most_proved.ensures.proves;
  greatest = λ m le is. c.most_proved.ensures.greatest m le ((decides m).0 is);
}
  where
    decides : (l : ℕ) → PricesProve c.args.limits.now.limits c.args.prices.now l ↔ Proves (to_z w128 (of_z w128 c.bound-bound.result)) l
    decides l =
        let n = c.args.limits.now.limits in
        let p = c.args.prices.now in
        let fits : FitsSigned w128 c.bound-bound.result = search rules in
        let bound = to_z-of_z w128 c.bound-bound.result fits ∙ c.bound-bound.ensures ∙ ap (bound_of n p) c.deref.ensures.value in
        subst (λ b. PricesProve n p l ↔ Proves b l) (sym bound)
        (c.worths_decide.ensures n p c.find_worths.new.worths.items l c.instance.ensures.is_instance c.tasks.ensures.limits.range c.requires.priced c.find_worths.ensures.worths)
