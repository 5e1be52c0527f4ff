use Rattle.node_solver.proofs.best_plan.BestPlan.rebuild_uses.Goals as goal

pub returns-clause-best : goal.returns-clause-best
returns-clause-best c = λ b.
    c.offer.ensures.best c.args.instance.now b (record { legal = c.in_ok-rebuild.ensures.legal; packed = c.in_ok-rebuild.ensures.packed })
