-- one node after the other in preorder
use Rattle.std.specs.Prelude.{◌≡◌, ◌<◌, ◌+◌, ◌++◌, ◌^◌, ℕ, List, [], ◌∷◌, Bool, Option, None, Some, if◌then◌else◌}
use Rattle.branch_tree.specs.declared.tree.LeafState.TheVariants as states
use Rattle.branch_tree.specs.declared.tree.Node.{Node}
use Rattle.branch_tree.specs.declared.tree.Node.TheVariants as nodes
use Rattle.crew_terms.specs.Leaf.{Prices}
use Rattle.crew_terms.specs.Limits.{Limits}
use Rattle.potentials.specs.Prices.{ArePrices, ArePricesOf}
use Rattle.search_tree.specs.declared.nodes.Content.{Content}
use Rattle.search_tree.specs.declared.nodes.Content.TheVariants as content

-- the children of a split have numbers
abbrev pub HasChildren : Content → Type 0
HasChildren (content.Open k) = Unit {0}
HasChildren (content.Closed k) = Unit {0}
HasChildren (content.Split choice cause first) = first + 1 < 2 ^ 32

-- the node in preorder, where p are the prices of numbers
abbrev pub node_in : (ℕ → Prices) → Content → Node
node_in p (content.Open k) = nodes.Leaf states.Open (p k)
node_in p (content.Closed k) = nodes.Leaf states.Closed (p k)
node_in p (content.Split choice cause first) = nodes.Split choice

-- the numbers that are due with it, the next one last
abbrev pub due_in : Content → List ℕ
due_in (content.Open k) = []
due_in (content.Closed k) = []
due_in (content.Split choice cause first) = (first + 1) ∷ first ∷ []

-- its cause
abbrev pub cause_in : Content → List ℕ
cause_in (content.Open k) = []
cause_in (content.Closed k) = []
cause_in (content.Split choice cause first) = cause ∷ []

-- the node is put last, its cause too, and its children are due
pub record IsVisited (p : ℕ → Prices) (k : Content) (due later : List ℕ) (nodes more : List Node) (causes also : List ℕ) : Type 0 where
  pub node : more ≡ nodes ++ node_in p k ∷ []
  pub children : later ≡ due ++ due_in k
  pub cause : also ≡ causes ++ cause_in k

-- the prices of a leaf are prices of the node
abbrev pub HasPricesOf : Limits → Node → Type 0
HasPricesOf n (nodes.Split choice) = Unit {0}
HasPricesOf n (nodes.Leaf state prices) = ArePrices prices × ArePricesOf n prices

-- the number of the prices of a leaf that is open and is to be bare
abbrev pub bare_number : Bool → Content → Option ℕ
bare_number bare (content.Open k) = if bare then Some k else None
bare_number bare (content.Closed k) = None
bare_number bare (content.Split choice cause first) = None
