use Rattle.std.proofs.Common.{◌∙◌, ◌∷◌, [], ap}
use Rattle.branch_tree.specs.declared.tree.LeafState.TheVariants as states
use Rattle.branch_tree.specs.declared.tree.Node.{Node as OutNode}
use Rattle.crew_terms.specs.Branches.{LeafNode}
use Rattle.search_core.specs.Outline.{price_at}
use Rattle.search_core.proofs.outlines.outline_with.Goals as goal

pub whole-tree-requires-clause-whole : goal.whole-tree-requires-clause-whole
whole-tree-requires-clause-whole c = (
  LeafNode (record { state = states.Bare; prices = price_at c.args.prices.now c.in-Some.number }),
  c.in_ok-vec.ensures.items ∙ ap (λ (x : OutNode). x ∷ []) c.in_ok-root.ensures.node,
)
