-- trees whose nodes have numbers
use Rattle.std.specs.Prelude.{◌≡◌, ◌≢◌, ◌≤◌, ◌<◌, ◌+◌, ◌++◌, ℕ, zero, suc, Option, None, Some, List, [], ◌∷◌, length, slice_index_or, slice_set}
use Rattle.crew_terms.specs.Leaf.{Prices}
use Rattle.crew_terms.specs.Branches.{LeafNode, SplitNode}
use Rattle.crew_terms.specs.declared.Side.{Side}
use Rattle.crew_terms.specs.declared.Side.TheVariants.{First, Second}
use Rattle.crew_terms.specs.declared.Choice.{Choice}
use Rattle.search_terms.specs.SearchTree.{SearchTree, SplitCause, OpenLeaf, ClosedLeaf}
use Rattle.search_tree.specs.declared.nodes.Content.{Content}
use Rattle.search_tree.specs.declared.nodes.Content.TheVariants as content
use Rattle.search_tree.specs.declared.nodes.Node.{Node}

-- a leaf with these prices, on this side of the split above it
abbrev pub leaf_below : ℕ → Side → ℕ → Node
leaf_below above side prices = record { above = above; side = side; content = content.Open prices }

-- the root, open with these prices
abbrev pub root_node : ℕ → Node
root_node prices = leaf_below 0 First prices

-- a node by its number
abbrev pub node_of : List Node → ℕ → Node
node_of nodes n = slice_index_or nodes n (root_node 0)

-- the number of a child of a split
abbrev pub child_of : Content → Side → Option ℕ
child_of (content.Open prices) side = None
child_of (content.Closed prices) side = None
child_of (content.Split choice cause first) First = Some first
child_of (content.Split choice cause first) Second = Some (first + 1)

-- the node of this number is a child of the node n on this side, and comes behind it
pub record IsChild (nodes : List Node) (n : ℕ) (side : Side) (m : ℕ) : Type 0 where
  pub behind : n < m
  pub known : m < length nodes
  pub above : (node_of nodes m).above ≡ n
  pub turned : (node_of nodes m).side ≡ side
  pub child : child_of (node_of nodes n).content side ≡ Some m

-- the nodes are those of one tree, the root first: each child has its split above it, and each node but the root is a child
pub record AreNumbered (nodes : List Node) : Type 0 where
  pub some : 1 ≤ length nodes
  pub children : (n m : ℕ) (side : Side) → n < length nodes → child_of (node_of nodes n).content side ≡ Some m → IsChild nodes n side m
  pub parents : (m : ℕ) → 0 < m → m < length nodes → IsChild nodes (node_of nodes m).above (node_of nodes m).side m

-- ---- the tree of the nodes, where numbers stand for prices and for causes

-- the tree of a node, from the trees of its children
abbrev pub grown : (ℕ → Prices) → (ℕ → SplitCause) → Content → (ℕ → SearchTree) → SearchTree
grown prices causes (content.Open p) below = LeafNode (OpenLeaf (prices p))
grown prices causes (content.Closed p) below = LeafNode (ClosedLeaf (prices p))
grown prices causes (content.Split choice cause first) below =
    SplitNode (record { choice = choice; cause = causes cause }) (below first) (below (first + 1))

-- the tree from a node on, so many levels deep
unfoldable pub tree_at : (ℕ → Prices) → (ℕ → SplitCause) → ℕ → List Node → ℕ → SearchTree
tree_at prices causes zero nodes n = LeafNode (OpenLeaf (prices 0))
tree_at prices causes (suc levels) nodes n = grown prices causes (node_of nodes n).content (tree_at prices causes levels nodes)

-- the tree of the nodes: no way in it is longer than there are nodes
abbrev pub tree_of : (ℕ → Prices) → (ℕ → SplitCause) → List Node → SearchTree
tree_of prices causes nodes = tree_at prices causes (length nodes) nodes 0

-- the tree from a node on
abbrev pub subtree : (ℕ → Prices) → (ℕ → SplitCause) → List Node → ℕ → SearchTree
subtree prices causes nodes n = tree_at prices causes (length nodes) nodes n

-- ---- ways

-- the way from the root to a node, so many levels up
unfoldable pub way_up : ℕ → List Node → ℕ → List Side
way_up zero nodes n = []
way_up (suc levels) nodes zero = []
way_up (suc levels) nodes (suc n) = way_up levels nodes (node_of nodes (suc n)).above ++ (node_of nodes (suc n)).side ∷ []

-- the way from the root to the node of this number
abbrev pub way_of : List Node → ℕ → List Side
way_of nodes n = way_up n nodes n

-- the node of this number is an open leaf
abbrev pub IsOpenNode : List Node → ℕ → Type 0
IsOpenNode nodes n = (n < length nodes) × (prices : ℕ) × ((node_of nodes n).content ≡ content.Open prices)

-- the nodes with another content of one of them
abbrev pub with_content : List Node → ℕ → Content → List Node
with_content nodes n new = slice_set nodes n (record (node_of nodes n) { content = new })

-- the nodes with two open leaves with these prices put last, below the node n
abbrev pub with_children : List Node → ℕ → ℕ → List Node
with_children nodes n prices = nodes ++ leaf_below n First prices ∷ leaf_below n Second prices ∷ []

-- the nodes where the leaf n is split into two open leaves with these prices, which come last
abbrev pub split_at : List Node → ℕ → Choice → ℕ → ℕ → List Node
split_at nodes n choice cause prices = with_content (with_children nodes n prices) n (content.Split choice cause (length nodes))

-- the nodes where the leaf n is split, one by one
pub record HasSplit (nodes after : List Node) (n : ℕ) (choice : Choice) (cause prices : ℕ) : Type 0 where
  pub count : length after ≡ length nodes + 2
  pub here : node_of after n ≡ record (node_of nodes n) { content = content.Split choice cause (length nodes) }
  pub first : node_of after (length nodes) ≡ leaf_below n First prices
  pub second : node_of after (length nodes + 1) ≡ leaf_below n Second prices
  pub others : (m : ℕ) → m < length nodes → m ≢ n → node_of after m ≡ node_of nodes m
