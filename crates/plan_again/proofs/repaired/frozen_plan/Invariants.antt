use Rattle.std.proofs.Common.{◌≡◌, length}
use Rattle.plan_again.proofs.repaired.frozen_plan.Given as goal

abbrev pub invariant-loop-j : goal.invariant-loop-j
invariant-loop-j l = length l.plan ≡ length l.instance.tasks
