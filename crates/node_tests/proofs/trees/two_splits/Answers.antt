use Rattle.std.proofs.Common.{◌∷◌, ◌++◌, [], length, ap, ◌∙◌}
use Rattle.crew_terms.specs.declared.Choice.{Choice}
use Rattle.crew_terms.specs.declared.Choice.TheVariants as choices
use Rattle.branch_tree.specs.declared.tree.Node.{Node}
use Rattle.branch_tree.specs.declared.tree.Node.TheVariants as nodes
use Rattle.crew_terms.specs.Branches.{SplitNode}
use Rattle.branch_tree.specs.Trees.{IsPreorder}
use Rattle.node_tests.proofs.trees.two_splits.Goals as goal

with_two : (a b : Choice) (x y z : Node) → IsPreorder (x ∷ []) → IsPreorder (y ∷ []) → IsPreorder (z ∷ []) → IsPreorder (nodes.Split a ∷ nodes.Split b ∷ x ∷ y ∷ z ∷ [])
with_two a b x y z (t, e) (u, f) (v, g) = (SplitNode a (SplitNode b t u) v, (λ k. nodes.Split a ∷ nodes.Split b ∷ ((e k ++ f k) ++ g k)))

pub returns : goal.returns
returns c =
    let tree = with_two (choices.Window 1 420) (choices.Pair 0 1) c.in_ok-closed.closed c.in_ok-open.open c.in_ok-bare.bare c.in_ok-closed.ensures c.in_ok-open.ensures c.in_ok-bare.ensures in
    ((tree.0, c.in_ok-nodes.ensures.items ∙ tree.1), ap length c.in_ok-nodes.ensures.items)
