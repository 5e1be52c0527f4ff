-- the tree of a search: its splits have causes, and its leaves have prices alone
use Rattle.std.specs.Prelude.{◌≡◌, ◌++◌, ℕ, List, [], ◌∷◌}
use Rattle.crew_terms.specs.Limits.{Limits}
use Rattle.crew_terms.specs.Leaf.{Prices}
use Rattle.crew_terms.specs.Branches.{Branches, LeafNode, SplitNode, Claim, Open, Closed, leaf_sum}
use Rattle.crew_terms.specs.Tree.{Tree, Priced, child}
use Rattle.crew_terms.specs.declared.Choice.{Choice}
use Rattle.crew_terms.specs.declared.Side.TheVariants.{First, Second}
use Rattle.search_terms.specs.Earned.{Why}

-- how many tasks the plan of the step left unassigned, and why it split the node
pub record SplitCause : Type 0 where
  pub now : ℕ
  pub why : Why

-- how a node is split, and the cause
pub record Split : Type 0 where
  pub choice : Choice
  pub cause : SplitCause

-- a leaf with its prices: still open, or closed by them
pub data SearchLeaf : Type 0 where
  OpenLeaf : (prices : Prices) → SearchLeaf
  ClosedLeaf : (prices : Prices) → SearchLeaf

-- the tree of branch and price
abbrev pub SearchTree : Type 0
SearchTree = Branches Split SearchLeaf

-- P holds of each leaf: of the limits of its node, and of the leaf
abbrev pub EachLeaf : (Limits → SearchLeaf → Type 0) → Limits → SearchTree → Type 0
EachLeaf P n (LeafNode leaf) = P n leaf
EachLeaf P n (SplitNode split first second) = EachLeaf P (child n split.choice First) first
    × EachLeaf P (child n split.choice Second) second

-- P holds of the prices of the leaf, if it is open
abbrev pub IfOpen : (Limits → Prices → Type 0) → Limits → SearchLeaf → Type 0
IfOpen P n (OpenLeaf prices) = P n prices
IfOpen P n (ClosedLeaf prices) = Unit {0}

-- P holds of each open leaf: of the limits of its node, and of its prices
abbrev pub EachOpen : (Limits → Prices → Type 0) → Limits → SearchTree → Type 0
EachOpen P n t = EachLeaf (IfOpen P) n t

-- P holds of each split: of the limits of its node, of its cause, and of the tree from there on
abbrev pub EachSplit : (Limits → SplitCause → SearchTree → Type 0) → Limits → SearchTree → Type 0
EachSplit P n (LeafNode leaf) = Unit {0}
EachSplit P n (SplitNode split first second) = P n split.cause (SplitNode split first second)
    × EachSplit P (child n split.choice First) first × EachSplit P (child n split.choice Second) second

-- 1 of a closed leaf, else 0
abbrev pub closed_here : SearchLeaf → ℕ
closed_here (OpenLeaf prices) = 0
closed_here (ClosedLeaf prices) = 1

-- the closed leaves
abbrev pub closed_leaves : SearchTree → ℕ
closed_leaves t = leaf_sum closed_here t

-- the causes of the splits in preorder: of each split, then of its first child, and then of its second
abbrev pub causes : SearchTree → List SplitCause
causes (LeafNode leaf) = []
causes (SplitNode split first second) = split.cause ∷ (causes first ++ causes second)

-- the claim has the prices of the search's leaf, and worths and potentials beside them
abbrev pub IsClaimOf : SearchLeaf → Claim Priced → Type 0
IsClaimOf (OpenLeaf prices) (Open priced) = priced.prices ≡ prices
IsClaimOf (ClosedLeaf prices) (Closed priced) = priced.prices ≡ prices
IsClaimOf _ _ = ⊥

-- the tree has the splits of the search's tree, and the prices of its leaves
abbrev pub IsTreeOf : SearchTree → Tree → Type 0
IsTreeOf (LeafNode leaf) (LeafNode claim) = IsClaimOf leaf claim
IsTreeOf (SplitNode split first second) (SplitNode choice low high) =
    (choice ≡ split.choice) × IsTreeOf first low × IsTreeOf second high
IsTreeOf _ _ = ⊥
