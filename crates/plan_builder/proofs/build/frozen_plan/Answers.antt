use Rattle.std.proofs.Common.{arith, subst, sym}
use Rattle.crew_terms.specs.Legal.{IsLegal}
use Rattle.plan_builder.proofs.Frozen.{frozen_all, frozen_legal}
use Rattle.plan_builder.proofs.build.frozen_plan.Goals as goal

pub returns-clause-plan : goal.returns-clause-plan
returns-clause-plan c =
    frozen_all c.args.instance.now c.loop-j.plan c.loop-j.j (let a = c.loop-j-test.false in let b = c.tasks-j-end.ensures.count in omega arith) c.tasks.ensures.limits.frozen c.loop-j.invariant

pub returns-clause-legal : goal.returns-clause-legal
returns-clause-legal c =
    let is = frozen_all c.args.instance.now c.loop-j.plan c.loop-j.j (let a = c.loop-j-test.false in let b = c.tasks-j-end.ensures.count in omega arith) c.tasks.ensures.limits.frozen c.loop-j.invariant in
    subst (IsLegal c.args.instance.now) (sym is) (frozen_legal c.args.instance.now c.tasks.ensures.limits.frozen)
