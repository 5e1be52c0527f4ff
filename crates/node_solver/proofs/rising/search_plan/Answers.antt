use Rattle.std.proofs.Common.{subst}
use Rattle.node_solver.specs.Plans.{IsBestOf}
use Rattle.node_solver.proofs.rising.search_plan.Goals as goal

pub returns-clause-best : goal.returns-clause-best
returns-clause-best c = λ b.
    subst (λ i. IsBestOf i b c.args.best.now → IsBestOf i b c.rebuild_uses.new.self) c.instance-instance.ensures.instance (c.rebuild_uses.ensures.best b)
