use Rattle.branch_tree.proofs.Walked.{IsAfter}
use Rattle.branch_tree.proofs.tree.counts_of.Given as goal

abbrev pub invariant-loop-node : goal.invariant-loop-node
invariant-loop-node l = IsAfter l.nodes l.node-index l.above.items l.counts
