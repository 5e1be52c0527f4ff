use Rattle.plan_builder.proofs.Frozen.{IsFrozenBelow}
use Rattle.plan_builder.proofs.build.frozen_plan.Given as goal

abbrev pub invariant-loop-j : goal.invariant-loop-j
invariant-loop-j l = IsFrozenBelow l.instance l.plan l.j
