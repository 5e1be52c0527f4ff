use Rattle.plan_check.proofs.Kept.{does_decides}
use Rattle.plan_check.proofs.within.does.Goals as goal

pub returns : goal.returns
returns c = does_decides c.args.plan.now c.args.k c.args.j c.teams.result.now c.contains.result c.teams.ensures c.contains.ensures.cases
