use Rattle.std.proofs.Common.{◌≡◌, length}
use Rattle.plan_ruin.proofs.orders.Orders.plan.Given as goal

abbrev pub invariant-loop-j : goal.invariant-loop-j
invariant-loop-j l = length l.plan ≡ length l.instance.tasks
