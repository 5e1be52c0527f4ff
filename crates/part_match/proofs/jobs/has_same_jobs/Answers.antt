use Rattle.std.proofs.Common.{rules, arith}
use Rattle.part_match.proofs.KeptJobs.{one_plan}
use Rattle.part_match.proofs.jobs.has_same_jobs.Goals as goal

pub returns : goal.returns
returns c = (
  λ _. one_plan c.args.whole.now c.args.part.now c.args.tasks.now c.tasks-k-end.ensures.limits c.loop-k.k c.requires.count
      (omega (arith, c.tasks-k-end.ensures.count)) c.loop-k.invariant,
  λ _. search rules,
)
