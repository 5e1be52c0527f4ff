use Rattle.part_match.proofs.FoundTasks.{AreFound}
use Rattle.part_match.proofs.numbers.numbers.Given as goal

abbrev pub invariant-loop-j : goal.invariant-loop-j
invariant-loop-j l = AreFound l.whole l.part l.j l.tasks.items
