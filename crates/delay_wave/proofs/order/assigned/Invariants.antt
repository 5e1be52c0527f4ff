use Rattle.delay_wave.specs.Order.{AreAssigned}
use Rattle.delay_wave.proofs.order.assigned.Given as goal

abbrev pub invariant-loop-task : goal.invariant-loop-task
invariant-loop-task l = AreAssigned l.plan l.task l.turns.items
