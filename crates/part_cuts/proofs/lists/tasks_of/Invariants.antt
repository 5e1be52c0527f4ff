use Rattle.std.proofs.Common.{◌≡◌, get_or}
use Rattle.part_cuts.proofs.Listed.{AreBelow}
use Rattle.part_cuts.proofs.lists.tasks_of.Given as goal

abbrev pub invariant-loop-t : goal.invariant-loop-t
invariant-loop-t l = AreBelow (λ h. get_or l.numbers h 0 ≡ l.fn.k) l.t l.tasks.items
