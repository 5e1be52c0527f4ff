use Rattle.std.proofs.Common.{length}
use Rattle.tree_walk.proofs.Leaves.{Leaving}
use Rattle.tree_walk.proofs.walk.Walk.leave.Given as goal

abbrev pub invariant-loop-branch : goal.invariant-loop-branch
invariant-loop-branch l = Leaving l.is_closed l.fn.limits l.fn.self l.limits l.self

abbrev pub decreases-loop-branch : goal.decreases-loop-branch
decreases-loop-branch l = length l.self.above
