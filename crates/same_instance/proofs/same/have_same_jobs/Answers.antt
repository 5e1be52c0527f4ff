use Rattle.std.proofs.Common.{rules, arith}
use Rattle.same_instance.proofs.OneInstance.{one_plan}
use Rattle.same_instance.proofs.same.have_same_jobs.Goals as goal

pub returns : goal.returns
returns c = (
  λ _. one_plan c.args.a.now c.args.b.now c.tasks-j-end-2.ensures.limits c.tasks-j-end.ensures.limits c.loop-j.j c.requires
      (omega (arith, c.tasks-j-end-2.ensures.count)) c.loop-j.invariant,
  λ _. search rules,
)
