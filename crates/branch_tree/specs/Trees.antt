-- branch trees of which each leaf has prices, their nodes in preorder, and their numbers
use Rattle.std.specs.Prelude.{◌≡◌, ◌+◌, ℕ, List, [], ◌∷◌, ◌++◌, Option, None, Some, max}
use Rattle.crew_terms.specs.Branches.{Branches, LeafNode, SplitNode, Claim, Bare, Open, Closed, splits, depth, leaf_sum, closed_in, left_open_in}
use Rattle.crew_terms.specs.Leaf.{Prices}
use Rattle.crew_terms.specs.declared.Choice.{Choice}
use Rattle.crew_terms.specs.declared.TreeCounts.{TreeCounts}
use Rattle.branch_tree.specs.declared.tree.LeafState.{LeafState}
use Rattle.branch_tree.specs.declared.tree.LeafState.TheVariants as states
use Rattle.branch_tree.specs.declared.tree.Node.{Node}
use Rattle.branch_tree.specs.declared.tree.Node.TheVariants as nodes

-- what a leaf claims, and its prices
pub record ClaimedLeaf : Type 0 where
  pub state : LeafState
  pub prices : Prices

-- a branch tree whose leaves have prices
abbrev pub BranchTree : Type 0
BranchTree = Branches Choice ClaimedLeaf

-- the nodes: each split, then its first child, and then its second
abbrev pub preorder : BranchTree → List Node
preorder (LeafNode leaf) = nodes.Leaf leaf.state leaf.prices ∷ []
preorder (SplitNode choice first second) = nodes.Split choice ∷ (preorder first ++ preorder second)

-- these are the nodes of a whole tree
abbrev pub IsPreorder : List Node → Type 0
IsPreorder ns = (t : BranchTree) × (ns ≡ preorder t)

-- ---- numbers

-- what a leaf in this state claims, without its prices
abbrev pub claim_in : LeafState → Claim (Unit {0})
claim_in states.Bare = Bare
claim_in states.Open = Open tt
claim_in states.Closed = Closed tt

-- the closed leaves
abbrev pub closed : BranchTree → ℕ
closed t = leaf_sum (λ (leaf : ClaimedLeaf). closed_in (claim_in leaf.state)) t

-- the leaves that are bare or open
abbrev pub left_open : BranchTree → ℕ
left_open t = leaf_sum (λ (leaf : ClaimedLeaf). left_open_in (claim_in leaf.state)) t

-- the numbers of a tree
abbrev pub counts_of : BranchTree → TreeCounts
counts_of t = record { splits = splits t; closed = closed t; left_open = left_open t; depth = depth t }

-- these are the nodes of a tree with this number
abbrev pub IsCountIn : (BranchTree → ℕ) → List Node → ℕ → Type 0
IsCountIn f ns n = (t : BranchTree) × (ns ≡ preorder t) × (n ≡ f t)

-- these are the nodes of a tree with these numbers
abbrev pub AreCountsOf : List Node → TreeCounts → Type 0
AreCountsOf ns counts = (t : BranchTree) × (ns ≡ preorder t) × (counts ≡ counts_of t)

-- what the node claims, if it is a leaf
abbrev pub state_of : Node → Option LeafState
state_of (nodes.Split choice) = None
state_of (nodes.Leaf state prices) = Some state

-- the numbers with one more leaf, below so many splits
abbrev pub with_leaf : LeafState → ℕ → TreeCounts → TreeCounts
with_leaf state level c = record {
  splits = c.splits;
  closed = c.closed + closed_in (claim_in state);
  left_open = c.left_open + left_open_in (claim_in state);
  depth = max c.depth level;
}
