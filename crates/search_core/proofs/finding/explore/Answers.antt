use Rattle.std.proofs.Common.{◌≡◌, ◌∙◌, List, ap, sym}
use Rattle.crew_terms.specs.Instance.{Instance}
use Rattle.crew_terms.specs.Limits.{Limits}
use Rattle.crew_terms.specs.Plan.{unassigned_count}
use Rattle.node_limits.specs.Trail.{Trail}
use Rattle.node_limits.specs.Walks.{IsBack, limits_after}
use Rattle.node_limits.specs.declared.walks.Branch.{Branch}
use Rattle.search_core.proofs.Exploring.{after_instance}
use Rattle.search_core.proofs.NearPlans.{found_keepable}
use Rattle.search_core.proofs.finding.explore.Goals as goal

-- the node at the end of the walk is of the instance that the limits have behind it
same_instance : (old new : Trail) (turns : List Branch) (i : Instance) → IsBack new old → i ≡ new.limits.instance → (limits_after old.limits turns).instance ≡ i
same_instance old new turns i back is = after_instance old.limits turns ∙ sym (ap (λ (n : Limits). n.instance) back.limits) ∙ sym is

pub brought_near-requires : goal.brought_near-requires
brought_near-requires g c =
    found_keepable (limits_after c.args.limits.now.limits c.args.turns.now).instance c.instance.result.now (unassigned_count c.args.best.now) c.in_ok-found.found.plan
    (same_instance c.args.limits.now c.visit.new.limits c.args.turns.now c.instance.result.now c.in_ok-found.ensures.back c.instance.ensures.instance)
    c.in_ok-found.ensures.found.plan

pub returns-clause-found : goal.returns-clause-found
returns-clause-found g c =
    c.brought_near.ensures (limits_after c.args.limits.now.limits c.args.turns.now) (unassigned_count c.args.best.now) c.args.effort.now.pivots
    (g.C.Columns.columns c.args.columns.now) (g.C.Columns.columns c.visit.new.columns) c.args.own.now
    (same_instance c.args.limits.now c.visit.new.limits c.args.turns.now c.instance.result.now c.in_ok-found.ensures.back c.instance.ensures.instance)
    c.in_ok-found.ensures.found
