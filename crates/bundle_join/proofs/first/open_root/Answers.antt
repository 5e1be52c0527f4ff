use Rattle.branch_tree.specs.declared.tree.LeafState.TheVariants as states
use Rattle.crew_terms.specs.Branches.{LeafNode}
use Rattle.bundle_join.proofs.first.open_root.Goals as goal

pub whole-requires-clause-whole : goal.whole-requires-clause-whole
whole-requires-clause-whole c = (LeafNode (record { state = states.Open; prices = c.in_ok-of.field-0 }), c.in_ok-vec.ensures.items)
