-- what the fields stand for
use Rattle.std.specs.Prelude.{◌≤◌, ◌+◌, ◌*◌, List, length}
use Rattle.crew_terms.specs.declared.TheConstants.{MOST_NODES}
use Rattle.branch_tree.specs.Trees.{AreCountsOf}
use Rattle.branch_tree.specs.declared.tree.Node.{Node}
use Rattle.branch_tree.specs.declared.tree.Tree.TheInside.{Inside}

abbrev pub nodes_of : Inside → List Node
nodes_of a = a.nodes.items

-- the nodes are those of a tree with the numbers that are kept
pub record IsKept (a : Inside) : Type 0 where
  pub few : length a.nodes.items ≤ 2 * MOST_NODES + 1
  pub counts : AreCountsOf a.nodes.items a.counts
