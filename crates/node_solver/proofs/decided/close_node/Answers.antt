use Rattle.crew_terms.specs.Plan.{unassigned_count}
use Rattle.node_solver.proofs.Ending.{proved_required}
use Rattle.node_solver.proofs.decided.close_node.Goals as goal

pub returns-in_ok-plan-in-Plan-clause-proved : goal.returns-in_ok-plan-in-Plan-clause-proved
returns-in_ok-plan-in-Plan-clause-proved c =
    let best = rw c.in-Plan.is at c.in_ok-prices.ensures.closed in
    c.less_is_proved.ensures c.args.limits.now.limits c.in-Plan.prices (unassigned_count c.in-Plan.plan) (unassigned_count c.in_ok-plan-in-Plan.plan)
    c.in_ok-plan-in-Plan.ensures.fewer best.proved
