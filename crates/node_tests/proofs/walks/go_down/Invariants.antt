use Rattle.tree_walk.specs.Way.{IsSomewhere}
use Rattle.node_tests.proofs.walks.go_down.Given as goal

abbrev pub invariant-loop-n : goal.invariant-loop-n
invariant-loop-n l = IsSomewhere l.limits l.walk
