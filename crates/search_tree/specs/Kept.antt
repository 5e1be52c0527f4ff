-- what the fields stand for
use Rattle.std.specs.Prelude.{◌≤◌, ◌+◌, ◌*◌, List, length}
use Rattle.crew_terms.specs.declared.TheConstants.{MOST_NODES}
use Rattle.search_tree.specs.declared.nodes.Node.{Node}
use Rattle.search_tree.specs.declared.trees.NumberedTree.TheInside.{Inside}
use Rattle.search_tree.specs.Numbered.{AreNumbered}

abbrev pub nodes_of : Inside → List Node
nodes_of a = a.nodes.items

-- the nodes are those of one tree, of at most 100,000 splits
pub record IsKept (a : Inside) : Type 0 where
  pub few : length a.nodes.items ≤ 2 * MOST_NODES + 1
  pub numbered : AreNumbered a.nodes.items
