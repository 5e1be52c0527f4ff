use Rattle.branch_tree.proofs.Walked.{few_counts}
use Rattle.branch_tree.proofs.tree.Tree.closed.Goals as goal

pub returns-clause-few : goal.returns-clause-few
returns-clause-few c = (few_counts c.self.inside.nodes.items c.self.inside.counts c.self.invariant.counts c.self.invariant.few).1
