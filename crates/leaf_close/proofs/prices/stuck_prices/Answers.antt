use Rattle.std.proofs.Common.{◌≡◌, ◌<◌, ◌+◌, pos, ap, sym, subst, length, arith, ◌∙◌, w64, to_z, of_z, rules}
use Rattle.std.specs.Prelude.{FitsSigned}
use Rattle.std.proofs.lemmas.Int.{to_z-of_z}
use Rattle.crew_terms.specs.Leaf.{Prices, pi_of}
use Rattle.crew_terms.specs.Limits.{is_required, tasks_in}
use Rattle.potentials.specs.Prices.{ArePrices, ArePricesOf, with_rho}
use Rattle.search_terms.specs.Closing.{all_cost}
use Rattle.leaf_close.proofs.Pricing.{ArePairs, IsOfTeam, still_shaped, stuck_priced, team_set, team_skip}
use Rattle.leaf_close.proofs.prices.stuck_prices.Goals as goal
use Rattle.leaf_close.proofs.prices.stuck_prices.Goals.{then-is_required, else-is_required}

pub loop-j-preserved : goal.loop-j-preserved
loop-j-preserved c =
    let n = c.args.limits.now.limits in
    let k = c.args.k in
    let j = c.loop-j.j in
    let old : Prices = c.loop-j.prices in
    let fits : FitsSigned w64 c.cost_of_all-cost.result = search rules in
    let cost : to_z w64 (of_z w64 c.cost_of_all-cost.result) ≡ pos (all_cost c.args.limits.now.limits) = to_z-of_z w64 c.cost_of_all-cost.result fits ∙ c.cost_of_all-cost.ensures.cost in
    let below : c.loop-j.j < tasks_in c.args.limits.now.limits = (let a = ap (λ i. length i.tasks) c.instance.ensures.instance in let b = c.loop-j-test.true in omega arith) in
    let pair = c.is_required.ensures ∙ ap is_required c.pair.ensures in
    elim c.if-is_required.branch [
      | then-is_required w ↦
          let new = w.prices-is ∙ w.set_rho.ensures.price ∙ ap (with_rho old k j) cost in
          record {
            limits = subst ArePrices (sym w.prices-is) w.set_rho.ensures.limits;
            shape = subst (ArePricesOf n) (sym new) (still_shaped n old k j (pos (all_cost c.args.limits.now.limits)) c.loop-j.invariant.shape);
            tasks = λ h. ap (λ (p : Prices). pi_of p h) new ∙ c.loop-j.invariant.tasks h;
            pairs = subst (λ (p : Prices). ArePairs p (pos (all_cost c.args.limits.now.limits)) (IsOfTeam n k (j + 1))) (sym new)
                (team_set n old (pos (all_cost c.args.limits.now.limits)) c.loop-j.invariant.limits c.loop-j.invariant.shape k j c.requires below (sym pair ∙ w.if-is_required.true) c.loop-j.invariant.pairs);
          }
      | else-is_required w ↦
          record {
            limits = subst ArePrices (sym w.prices-is) c.loop-j.invariant.limits;
            shape = subst (ArePricesOf n) (sym w.prices-is) c.loop-j.invariant.shape;
            tasks = λ h. ap (λ (p : Prices). pi_of p h) w.prices-is ∙ c.loop-j.invariant.tasks h;
            pairs = subst (λ (p : Prices). ArePairs p (pos (all_cost c.args.limits.now.limits)) (IsOfTeam n k (j + 1))) (sym w.prices-is)
                (team_skip n old (pos (all_cost c.args.limits.now.limits)) c.loop-j.invariant.limits c.loop-j.invariant.shape k j c.requires below (sym pair ∙ w.if-is_required.false) c.loop-j.invariant.pairs);
          }
    ]

pub returns-clause-prices : goal.returns-clause-prices
returns-clause-prices c =
    stuck_priced c.args.limits.now.limits c.loop-j.prices c.args.k c.loop-j.j c.instance.ensures.limits
    (let a = ap (λ i. length i.tasks) c.instance.ensures.instance in let b = c.loop-j-test.false in omega arith)
    c.loop-j.invariant.tasks c.loop-j.invariant.pairs
