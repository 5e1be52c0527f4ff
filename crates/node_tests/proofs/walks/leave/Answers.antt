use Rattle.std.proofs.Common.{subst}
use Rattle.tree_walk.specs.Way.{LeavesLeaf}
use Rattle.tree_walk.proofs.Somewhere.{went_on}
use Rattle.node_tests.proofs.walks.leave.Goals as goal

pub returns : goal.returns
returns c = λ e. went_on c.args.is_closed _ _ _ _
    (subst (LeavesLeaf c.args.is_closed c.args.limits.now c.args.walk.now c.leave.new.limits c.leave.new.self) e c.leave.ensures.leaves) c.requires
