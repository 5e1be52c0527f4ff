use Rattle.std.proofs.Common.{List, get_or, replicate, ◌≡◌, ◌<◌, ◌+◌, ℤ, pos, cond, eqb, ap, sym, subst, set, length, arith, ◌∙◌, w64, to_z, of_z, rules}
use Rattle.std.specs.Prelude.{FitsSigned, neg_ℤ, ◌-ℤ◌}
use Rattle.std.proofs.lemmas.Int.{ints, to_z-of_z}
use Rattle.std.proofs.lemmas.List.{length-replicate, length-set}
use Rattle.crew_terms.specs.Leaf.{Prices, pi_of}
use Rattle.crew_terms.specs.Limits.{is_required, tasks_in, teams_in}
use Rattle.crew_terms.specs.Leaf.{zero_prices}
use Rattle.potentials.specs.Prices.{ArePrices, ArePricesOf, with_rho}
use Rattle.search_terms.specs.Closing.{all_cost}
use Rattle.leaf_close.proofs.Pricing.{ArePairs, IsOfTask, no_pairs, one_task, still_shaped, crowded_priced, task_set, task_skip}
use Rattle.leaf_close.proofs.prices.crowded_prices.Goals as goal
use Rattle.leaf_close.proofs.prices.crowded_prices.Goals.{then-is_required, else-is_required}

pub loop-k-init : goal.loop-k-init
loop-k-init c =
    let n = c.args.limits.now.limits in
    let j = c.args.j in
    let all : ℤ = pos (all_cost c.args.limits.now.limits) in
    let fits : FitsSigned w64 c.cost_of_all-cost.result = search rules in
    let cost : to_z w64 (of_z w64 c.cost_of_all-cost.result) ≡ pos (all_cost c.args.limits.now.limits) = to_z-of_z w64 c.cost_of_all-cost.result fits ∙ c.cost_of_all-cost.ensures.cost in
    let less_fits : FitsSigned w64 (pos 0 -ℤ to_z w64 (of_z w64 c.cost_of_all-cost.result)) = search rules in
    let less : to_z w64 (of_z w64 (pos 0 -ℤ to_z w64 (of_z w64 c.cost_of_all-cost.result))) ≡ neg_ℤ (pos (all_cost c.args.limits.now.limits)) =
    to_z-of_z w64 (pos 0 -ℤ to_z w64 (of_z w64 c.cost_of_all-cost.result)) less_fits ∙ ap (λ z. pos 0 -ℤ z) cost ∙ omega (arith, ints) in
    let zeros : c.in_ok-prices.prices ≡ zero_prices c.args.limits.now.limits = c.in_ok-prices.ensures.zeros in
    let pi = ap (λ (p : Prices). p.pi) c.set_pi.ensures.price ∙ ap (λ z. set c.in_ok-prices.prices.pi j z) less ∙ ap (λ (p : Prices). set p.pi j (neg_ℤ all)) zeros in
    let rho = ap (λ (p : Prices). p.rho) c.set_pi.ensures.price ∙ ap (λ (p : Prices). p.rho) zeros in
    record {
      limits = c.set_pi.ensures.limits;
      shape = record {
        tasks = ap length pi ∙ length-set (zero_prices n).pi j (neg_ℤ all) ∙ length-replicate (tasks_in n) (pos 0);
        teams = ap length rho ∙ length-replicate (teams_in n) (replicate (tasks_in n) (pos 0));
      };
      tasks = λ h. ap (λ (xs : List ℤ). get_or xs h (pos 0)) pi ∙ one_task n j (neg_ℤ all) c.requires h;
      pairs = no_pairs n c.set_pi.new.self all (IsOfTask n j 0) rho (λ g h o. let l = o.below in omega arith);
    }

pub loop-k-preserved : goal.loop-k-preserved
loop-k-preserved c =
    let n = c.args.limits.now.limits in
    let j = c.args.j in
    let k = c.loop-k.k in
    let old : Prices = c.loop-k.prices in
    let fits : FitsSigned w64 c.cost_of_all-cost.result = search rules in
    let cost : to_z w64 (of_z w64 c.cost_of_all-cost.result) ≡ pos (all_cost c.args.limits.now.limits) = to_z-of_z w64 c.cost_of_all-cost.result fits ∙ c.cost_of_all-cost.ensures.cost in
    let below : c.loop-k.k < teams_in c.args.limits.now.limits = (let a = ap (λ i. length i.teams) c.instance.ensures.instance in let b = c.loop-k-test.true in omega arith) in
    let pair = c.is_required.ensures ∙ ap is_required c.pair.ensures in
    elim c.if-is_required.branch [
      | then-is_required w ↦
          let new = w.prices-is ∙ w.set_rho.ensures.price ∙ ap (with_rho old k j) cost in
          record {
            limits = subst ArePrices (sym w.prices-is) w.set_rho.ensures.limits;
            shape = subst (ArePricesOf n) (sym new) (still_shaped n old k j (pos (all_cost c.args.limits.now.limits)) c.loop-k.invariant.shape);
            tasks = λ h. ap (λ (p : Prices). pi_of p h) new ∙ c.loop-k.invariant.tasks h;
            pairs = subst (λ (p : Prices). ArePairs p (pos (all_cost c.args.limits.now.limits)) (IsOfTask n j (k + 1))) (sym new)
                (task_set n old (pos (all_cost c.args.limits.now.limits)) c.loop-k.invariant.limits c.loop-k.invariant.shape k j below c.requires (sym pair ∙ w.if-is_required.true) c.loop-k.invariant.pairs);
          }
      | else-is_required w ↦
          record {
            limits = subst ArePrices (sym w.prices-is) c.loop-k.invariant.limits;
            shape = subst (ArePricesOf n) (sym w.prices-is) c.loop-k.invariant.shape;
            tasks = λ h. ap (λ (p : Prices). pi_of p h) w.prices-is ∙ c.loop-k.invariant.tasks h;
            pairs = subst (λ (p : Prices). ArePairs p (pos (all_cost c.args.limits.now.limits)) (IsOfTask n j (k + 1))) (sym w.prices-is)
                (task_skip n old (pos (all_cost c.args.limits.now.limits)) c.loop-k.invariant.limits c.loop-k.invariant.shape k j below c.requires (sym pair ∙ w.if-is_required.false) c.loop-k.invariant.pairs);
          }
    ]

pub returns-clause-prices : goal.returns-clause-prices
returns-clause-prices c =
    crowded_priced c.args.limits.now.limits c.loop-k.prices c.args.j c.loop-k.k (λ h. cond (eqb h c.args.j) (neg_ℤ (pos (all_cost c.args.limits.now.limits))) (pos 0)) c.instance.ensures.limits
    (let a = ap (λ i. length i.teams) c.instance.ensures.instance in let b = c.loop-k-test.false in omega arith)
    (λ h l. c.loop-k.invariant.tasks h) c.loop-k.invariant.pairs
