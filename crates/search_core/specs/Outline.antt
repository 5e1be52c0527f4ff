-- the tree that a search hands out, with the prices of its leaves
use Rattle.std.specs.Prelude.{◌≡◌, ◌==◌, ℕ, List, [], slice_index_or, Bool, true, false, ◌&&◌, if◌then◌else◌}
use Rattle.branch_tree.specs.Trees.{BranchTree, ClaimedLeaf}
use Rattle.branch_tree.specs.declared.tree.LeafState.TheVariants as states
use Rattle.crew_terms.specs.Branches.{LeafNode, SplitNode, Claim, Bare, Open, Closed}
use Rattle.crew_terms.specs.Leaf.{Prices}
use Rattle.crew_terms.specs.Tree.{Priced, Tree}
use Rattle.search_terms.specs.Search.{SearchState, best}
use Rattle.search_terms.specs.SearchTree.{SearchLeaf, SearchTree, OpenLeaf, ClosedLeaf}

-- the prices of a number
abbrev pub price_at : List Prices → ℕ → Prices
price_at prices k = slice_index_or prices k (record { pi = []; rho = [] })

-- an open leaf, a closed one
abbrev pub claimed : SearchLeaf → ClaimedLeaf
claimed (OpenLeaf prices) = record { state = states.Open; prices = prices }
claimed (ClosedLeaf prices) = record { state = states.Closed; prices = prices }

-- the tree of a search without its causes
abbrev pub outline : SearchTree → BranchTree
outline (LeafNode leaf) = LeafNode (claimed leaf)
outline (SplitNode split first second) = SplitNode split.choice (outline first) (outline second)

-- no step took the root
abbrev pub is_untaken : SearchTree → Bool
is_untaken (LeafNode (OpenLeaf prices)) = true
is_untaken (LeafNode (ClosedLeaf prices)) = false
is_untaken (SplitNode split first second) = false

-- the leaf, bare
abbrev pub bared : BranchTree → BranchTree
bared (LeafNode leaf) = LeafNode (record leaf { state = states.Bare })
bared (SplitNode choice first second) = SplitNode choice first second

-- the tree without its causes; a root that no step took is bare, if so it is told
abbrev pub outline_with : Bool → SearchTree → BranchTree
outline_with bare t = if is_untaken t && bare then bared (outline t) else outline t

-- the tree that is handed out: a root that no step took is bare where nothing is unassigned
abbrev pub handed_out : SearchState → BranchTree
handed_out s = outline_with (best s == 0) s.tree

-- the claim has the state of the leaf, and its prices with worths and potentials beside them
abbrev pub IsClaimed : ClaimedLeaf → Claim Priced → Type 0
IsClaimed leaf Bare = leaf.state ≡ states.Bare
IsClaimed leaf (Open priced) = (leaf.state ≡ states.Open) × (priced.prices ≡ leaf.prices)
IsClaimed leaf (Closed priced) = (leaf.state ≡ states.Closed) × (priced.prices ≡ leaf.prices)

-- the tree, with worths and potentials beside the prices of its leaves
abbrev pub IsPricedAs : BranchTree → Tree → Type 0
IsPricedAs (LeafNode leaf) (LeafNode claim) = IsClaimed leaf claim
IsPricedAs (SplitNode choice first second) (SplitNode same low high) =
    (same ≡ choice) × IsPricedAs first low × IsPricedAs second high
IsPricedAs _ _ = ⊥
