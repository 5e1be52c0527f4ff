use Rattle.std.proofs.Common.{◌≡◌, length}
use Rattle.crew_fixtures.proofs.plans.plan_of.Given as goal

abbrev pub invariant-loop-task : goal.invariant-loop-task
invariant-loop-task l = length l.plan ≡ l.fn.tasks
