use Rattle.std.proofs.Common.{◌≡◌, map, take}
use Rattle.crew_terms.specs.Instance.{task_of}
use Rattle.part_make.proofs.lists.tasks_of.Given as goal

abbrev pub invariant-loop-k : goal.invariant-loop-k
invariant-loop-k l = l.kept.items ≡ map (task_of l.whole) (take l.k l.tasks)
