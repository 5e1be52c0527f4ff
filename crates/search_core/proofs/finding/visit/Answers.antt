use Rattle.std.proofs.Common.{◌≡◌, ◌≤◌, ◌∙◌, ℤ, List, length, ap, sym, subst, arith}
use Rattle.std.specs.Int.{w128}
use Rattle.std.specs.Prelude.{IfOk}
use Rattle.std.proofs.lemmas.Int.{to_z-of_z}
use Rattle.crew_terms.specs.Instance.{Instance}
use Rattle.crew_terms.specs.Leaf.{IsOnRequired}
use Rattle.crew_terms.specs.Limits.{Limits, tasks_in}
use Rattle.crew_terms.specs.Plan.{unassigned_count}
use Rattle.search_tree.specs.States.{DecidesProved}
use Rattle.label_pricing.specs.Pricing.{HasRoom}
use Rattle.node_limits.specs.Trail.{Trail}
use Rattle.node_limits.specs.Walks.{walked, limits_after}
use Rattle.potentials.specs.Prices.{ArePricesOf}
use Rattle.search_core.specs.Findings.{IsFinding}
use Rattle.search_terms.specs.Inside.{IsNode}
use Rattle.search_terms.specs.Search.{Extends}
use Rattle.node_limits.specs.declared.walks.Branch.{Branch}
use Rattle.search_core.proofs.Exploring.{after_instance, walked_limits, walked_past, walked_spare}
use Rattle.search_core.proofs.finding.visit.Goals as goal

-- where the walk comes to
there : (old room now : Trail) (turns : List Branch) → room.limits ≡ old.limits → now ≡ walked room turns → now.limits ≡ limits_after old.limits turns
there old room now turns same is =
    ap (λ (t : Trail). t.limits) is ∙ walked_limits room turns ∙ ap (λ (n : Limits). limits_after n turns) same

pub examine-found-requires-clause-node : goal.examine-found-requires-clause-node
examine-found-requires-clause-node g c =
    let e = there c.args.limits.now c.reserve.new.self c.descend.new.limits c.args.turns.now (ap (λ (t : Trail). t.limits) c.in_ok-reserve.ensures.ok) c.descend.ensures in
    subst IsNode (sym e) c.requires.node

pub examine-found-requires-clause-spare : goal.examine-found-requires-clause-spare
examine-found-requires-clause-spare g c =
    let a = walked_spare c.reserve.new.self c.args.turns.now in
    let b = ap (λ (t : Trail). t.spare) c.in_ok-reserve.ensures.ok in
    let d = ap (λ (t : Trail). t.spare) c.descend.ensures in
    omega arith

pub examine-found-requires-clause-own : goal.examine-found-requires-clause-own
examine-found-requires-clause-own g c =
    let e = there c.args.limits.now c.reserve.new.self c.descend.new.limits c.args.turns.now (ap (λ (t : Trail). t.limits) c.in_ok-reserve.ensures.ok) c.descend.ensures in
    subst (λ (n : Limits). ArePricesOf n c.args.own.now) (sym e) c.requires.own

pub examine-found-requires-clause-required : goal.examine-found-requires-clause-required
examine-found-requires-clause-required g c =
    let e = there c.args.limits.now c.reserve.new.self c.descend.new.limits c.args.turns.now (ap (λ (t : Trail). t.limits) c.in_ok-reserve.ensures.ok) c.descend.ensures in
    subst (λ (n : Limits). IsOnRequired n c.args.own.now) (sym e) c.requires.required

pub examine-found-requires-clause-bound : goal.examine-found-requires-clause-bound
examine-found-requires-clause-bound g c =
    let e = there c.args.limits.now c.reserve.new.self c.descend.new.limits c.args.turns.now (ap (λ (t : Trail). t.limits) c.in_ok-reserve.ensures.ok) c.descend.ensures in
    subst (λ (z : ℤ). DecidesProved c.descend.new.limits.limits c.args.own.now z) (sym (to_z-of_z w128 c.args.bound c.ranges.bound))
    (subst (λ (n : Limits). DecidesProved n c.args.own.now c.args.bound) (sym e) c.requires.bound)

pub examine-found-requires-clause-best : goal.examine-found-requires-clause-best
examine-found-requires-clause-best g c =
    let e = there c.args.limits.now c.reserve.new.self c.descend.new.limits c.args.turns.now (ap (λ (t : Trail). t.limits) c.in_ok-reserve.ensures.ok) c.descend.ensures in
    subst (λ (n : Limits). unassigned_count c.args.best.now ≤ tasks_in n) (sym e) c.requires.best

pub examine-found-requires-clause-room : goal.examine-found-requires-clause-room
examine-found-requires-clause-room g c =
    let e = there c.args.limits.now c.reserve.new.self c.descend.new.limits c.args.turns.now (ap (λ (t : Trail). t.limits) c.in_ok-reserve.ensures.ok) c.descend.ensures in
    let same : c.args.limits.now.limits.instance ≡ c.descend.new.limits.limits.instance =
    sym (ap (λ (n : Limits). n.instance) e ∙ after_instance c.args.limits.now.limits c.args.turns.now) in
    subst (λ (i : Instance). HasRoom i c.args.pricer.now) same c.requires.room

pub ascend-requires : goal.ascend-requires
ascend-requires g c =
    let a = walked_past c.reserve.new.self c.args.turns.now in
    let b = ap (λ (t : Trail). length t.past) (c.examine-found.ensures.limits ∙ c.descend.ensures) in
    omega arith

pub returns-clause-found : goal.returns-clause-found
returns-clause-found g c =
    let e = there c.args.limits.now c.reserve.new.self c.descend.new.limits c.args.turns.now (ap (λ (t : Trail). t.limits) c.in_ok-reserve.ensures.ok) c.descend.ensures in
    subst (λ (n : Limits). IfOk c.examine-found.result (IsFinding n (unassigned_count c.args.best.now) c.args.effort.now.pivots (g.C.Columns.columns c.args.columns.now)
    (g.C.Columns.columns c.examine-found.new.columns) c.args.own.now)) e c.examine-found.ensures.found

pub returns-clause-extends : goal.returns-clause-extends
returns-clause-extends g c =
    let e = there c.args.limits.now c.reserve.new.self c.descend.new.limits c.args.turns.now (ap (λ (t : Trail). t.limits) c.in_ok-reserve.ensures.ok) c.descend.ensures in
    subst (λ (n : Limits). Extends n (g.C.Columns.columns c.args.columns.now) (g.C.Columns.columns c.examine-found.new.columns)) e c.examine-found.ensures.extends
