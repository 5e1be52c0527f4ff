use Rattle.std.proofs.Common.{◌≡◌, ◌∙◌, ℤ, ap, sym, subst, rules}
use Rattle.std.specs.Int.{w128}
use Rattle.std.specs.Prelude.{FitsSigned}
use Rattle.std.proofs.lemmas.Int.{to_z-of_z}
use Rattle.crew_terms.specs.Instance.{Instance}
use Rattle.crew_terms.specs.Limits.{Limits}
use Rattle.crew_terms.specs.Nodes.{child_instance}
use Rattle.crew_terms.specs.Tree.{child}
use Rattle.search_tree.specs.States.{DecidesProved}
use Rattle.label_pricing.specs.Pricing.{HasRoom}
use Rattle.node_limits.specs.Trail.{Trail}
use Rattle.search_terms.specs.BestFirst.{IsBoundIn}
use Rattle.search_core.proofs.Turning.{child_prices, proved_required, taken_back}
use Rattle.search_core.proofs.handing.side_bound.Goals as goal

pub proved-proved-requires-clause-prices : goal.proved-proved-requires-clause-prices
proved-proved-requires-clause-prices c =
    child_prices c.args.limits.now.limits c.narrow.new.limits.limits c.args.choice c.args.side c.args.prices.now
    (ap (λ (t : Trail). t.limits) c.narrow.ensures) c.requires.prices

pub proved-proved-requires-clause-priced : goal.proved-proved-requires-clause-priced
proved-proved-requires-clause-priced c =
    let n = c.args.limits.now.limits in
    proved_required (child n c.args.choice c.args.side) c.narrow.new.limits.limits c.args.prices.now 0 (ap (λ (t : Trail). t.limits) c.narrow.ensures)
    (c.prices_prove_inside.ensures.children n c.args.choice c.args.side c.args.prices.now 0 c.instance.ensures.limits c.requires.can c.requires.proved)

pub proved-proved-requires-clause-room : goal.proved-proved-requires-clause-room
proved-proved-requires-clause-room c =
    let n = c.args.limits.now.limits in
    let same : n.instance ≡ c.narrow.new.limits.limits.instance =
    sym (ap (λ (t : Trail). t.limits.instance) c.narrow.ensures ∙ child_instance n c.args.choice c.args.side) in
    subst (λ (i : Instance). HasRoom i c.args.pricer.now) same c.requires.room

pub returns-clause-bound : goal.returns-clause-bound
returns-clause-bound c =
    let b = c.proved-proved.result.bound in
    let range : FitsSigned w128 b = search rules in
    let n = child c.args.limits.now.limits c.args.choice c.args.side in
    subst (λ (z : ℤ). IsBoundIn n c.args.prices.now z) (sym (to_z-of_z w128 b range))
    (subst (λ (m : Limits). IsBoundIn m c.args.prices.now b) (ap (λ (t : Trail). t.limits) c.narrow.ensures) (record {
      worths = c.proved-proved.new.self.worths;
      worth = record { count = c.proved-proved.ensures.worths.count; each = c.proved-proved.ensures.worths.each };
      is = c.proved-proved.ensures.bound;
    }))

pub returns-clause-decides : goal.returns-clause-decides
returns-clause-decides c =
    let b = c.proved-proved.result.bound in
    let range : FitsSigned w128 b = search rules in
    let n = child c.args.limits.now.limits c.args.choice c.args.side in
    subst (λ (z : ℤ). DecidesProved n c.args.prices.now z) (sym (to_z-of_z w128 b range))
    (subst (λ (m : Limits). DecidesProved m c.args.prices.now b) (ap (λ (t : Trail). t.limits) c.narrow.ensures) c.proved-proved.ensures.decides)

pub returns-clause-limits : goal.returns-clause-limits
returns-clause-limits c =
    let n = c.args.limits.now.limits in
    taken_back c.args.limits.now c.narrow.new.limits c.undo.new.self (child n c.args.choice c.args.side) c.narrow.ensures c.requires.spare
    c.undo.ensures.past c.undo.ensures.spare
