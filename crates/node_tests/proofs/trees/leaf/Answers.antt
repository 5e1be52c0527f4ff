use Rattle.std.proofs.Common.{refl}
use Rattle.crew_terms.specs.Branches.{LeafNode}
use Rattle.node_tests.proofs.trees.leaf.Goals as goal

pub returns : goal.returns
returns c = (LeafNode (record { state = c.args.state; prices = c.in_ok-prices.prices }), refl)
