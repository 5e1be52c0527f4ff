-- ways along the splits of a tree, and the limits that they come to
use Rattle.std.specs.Prelude.{◌≡◌, ◌++◌, ℕ, zero, suc, Some, List, [], ◌∷◌}
use Rattle.crew_terms.specs.Limits.{Limits}
use Rattle.crew_terms.specs.Branches.{LeafNode, SplitNode}
use Rattle.crew_terms.specs.Tree.{CanSplit, child}
use Rattle.crew_terms.specs.declared.Side.{Side}
use Rattle.crew_terms.specs.declared.Side.TheVariants.{First, Second}
use Rattle.crew_terms.specs.declared.Choice.{Choice}
use Rattle.crew_terms.specs.declared.Choice.TheVariants as choices
use Rattle.search_terms.specs.SearchTree.{SearchTree}
use Rattle.search_tree.specs.declared.nodes.Content.{Content}
use Rattle.search_tree.specs.declared.nodes.Content.TheVariants as content
use Rattle.search_tree.specs.declared.nodes.Node.{Node}
use Rattle.node_limits.specs.declared.walks.Branch.{Branch}
use Rattle.search_tree.specs.Numbered.{node_of, child_of}

-- the way leads from a node to another
pub data Leads (nodes : List Node) : ℕ → List Side → ℕ → Type 0 where
  Here : (n : ℕ) → Leads nodes n [] n
  Along : (n m j : ℕ) (side : Side) (way : List Side) (child : child_of (node_of nodes n).content side ≡ Some m)
      (rest : Leads nodes m way j) → Leads nodes n (side ∷ way) j

-- how the node is split, if it is
abbrev pub choice_in : Content → Choice
choice_in (content.Open prices) = choices.Window 0 0
choice_in (content.Closed prices) = choices.Window 0 0
choice_in (content.Split choice cause first) = choice

-- the node is a split
abbrev pub IsSplitNode : Node → Type 0
IsSplitNode node = (choice : Choice) × (cause : ℕ) × (first : ℕ) × (node.content ≡ content.Split choice cause first)

-- how the split above the node divides it, and the side of the node
abbrev pub turn_to : List Node → ℕ → Branch
turn_to nodes n = record { choice = choice_in (node_of nodes (node_of nodes n).above).content; side = (node_of nodes n).side }

-- the turns from the root to a node, so many levels up
unfoldable pub turns_up : ℕ → List Node → ℕ → List Branch
turns_up zero nodes n = []
turns_up (suc levels) nodes zero = []
turns_up (suc levels) nodes (suc n) = turns_up levels nodes (node_of nodes (suc n)).above ++ turn_to nodes (suc n) ∷ []

-- the turns from the root to the node of this number
abbrev pub turns_of : List Node → ℕ → List Branch
turns_of nodes n = turns_up n nodes n

-- each split of the tree is by a choice that can split its node
abbrev pub AreSplits : Limits → SearchTree → Type 0
AreSplits n (LeafNode leaf) = Unit {0}
AreSplits n (SplitNode split first second) = CanSplit n split.choice × AreSplits (child n split.choice First) first
    × AreSplits (child n split.choice Second) second
