use Rattle.plan_check.proofs.Kept.{keeps_forbidden}
use Rattle.plan_check.proofs.within.keeps_pair.Goals as goal

pub returns-in-Forbidden : goal.returns-in-Forbidden
returns-in-Forbidden c = keeps_forbidden c.args.limits.now.limits c.args.plan.now c.args.k c.args.j c.does.result c.in-Forbidden.ensures c.does.ensures
