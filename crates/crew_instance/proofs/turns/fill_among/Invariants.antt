use Rattle.crew_instance.specs.Turns.{AreTurns}
use Rattle.crew_instance.proofs.turns.fill_among.Given as goal

abbrev pub invariant-loop-task : goal.invariant-loop-task
invariant-loop-task l = AreTurns l.plan l.k l.task l.turns.items
