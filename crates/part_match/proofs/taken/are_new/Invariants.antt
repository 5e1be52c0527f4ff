use Rattle.part_match.proofs.NewTasks.{Differ, up_to}
use Rattle.part_match.proofs.taken.are_new.Given as goal

abbrev pub invariant-loop-k : goal.invariant-loop-k
invariant-loop-k l = Differ l.taken l.tasks (up_to l.taken l.tasks l.k)
