use Rattle.std.proofs.Common.{◌≡◌, ◌+◌, ◌++◌, length}
use Rattle.branch_tree.specs.Trees.{BranchTree, IsPreorder, preorder}
use Rattle.node_tests.proofs.trees.chain.Given as goal

abbrev pub invariant-loop-task : goal.invariant-loop-task
invariant-loop-task l = record {
  opens : (t : BranchTree) → IsPreorder (l.nodes.items ++ preorder t);
  count : length l.nodes.items ≡ l.task + l.task;
}
