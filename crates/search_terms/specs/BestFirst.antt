-- runs of a search each step of which is at the oldest open leaf of least bound
use Rattle.std.specs.Prelude.{◌≡◌, ◌++◌, ◌≤ℤ◌, ◌<ℤ◌, ℕ, ℤ, List, [], ◌∷◌, All}
use Rattle.crew_terms.specs.Branches.{LeafNode, SplitNode}
use Rattle.crew_terms.specs.Instance.{Instance}
use Rattle.crew_terms.specs.Leaf.{Prices, bound_of, zero_prices}
use Rattle.crew_terms.specs.Limits.{Limits, Route, root_limits}
use Rattle.crew_terms.specs.Tree.{child}
use Rattle.crew_terms.specs.declared.Side.{Side}
use Rattle.crew_terms.specs.declared.Side.TheVariants.{First, Second}
use Rattle.search_terms.specs.declared.TheConstants.{PIVOTS}
use Rattle.search_terms.specs.Earned.{AreWorths}
use Rattle.search_terms.specs.Search.{IsSearchStep, IsStart, SearchState}
use Rattle.search_terms.specs.SearchTree.{ClosedLeaf, OpenLeaf, SearchTree, Split}
use Rattle.search_terms.specs.Ways.{limits_at, replaced}

-- the bound that the prices give in the node, with the worths there
pub record IsBoundIn (n : Limits) (prices : Prices) (bound : ℤ) : Type 0 where
  pub worths : List ℤ
  pub worth : AreWorths n prices worths
  pub is : bound ≡ bound_of n prices worths

-- an open leaf: the way to it, and the bound that its prices give there
pub record AgedLeaf : Type 0 where
  pub way : List Side
  pub bound : ℤ

-- of these leaves, the oldest first, this is the oldest of those of least bound; the others stay in order
pub record IsDue (leaves : List AgedLeaf) (leaf : AgedLeaf) (others : List AgedLeaf) : Type 0 where
  pub older : List AgedLeaf
  pub younger : List AgedLeaf
  pub stands : leaves ≡ older ++ leaf ∷ younger
  pub apart : others ≡ older ++ younger
  pub below_older : All (λ (other : AgedLeaf). leaf.bound <ℤ other.bound) older
  pub not_above_younger : All (λ (other : AgedLeaf). leaf.bound ≤ℤ other.bound) younger

-- the leaves that come of the one at the end of the way: none where it is closed; the first child and then the second
-- where it is split
pub data ComeOf (root : Limits) (way : List Side) (old new : SearchTree) : List AgedLeaf → Type 0 where
  NoLeaf : (prices : Prices) (is : new ≡ replaced old way (LeafNode (ClosedLeaf prices))) → ComeOf root way old new []
  TwoLeaves : (split : Split) (handed : Prices) (low high : ℤ)
      (is : new ≡ replaced old way (SplitNode split (LeafNode (OpenLeaf handed)) (LeafNode (OpenLeaf handed))))
      (first : IsBoundIn (child (limits_at root old way) split.choice First) handed low)
      (second : IsBoundIn (child (limits_at root old way) split.choice Second) handed high)
      → ComeOf root way old new (record { way = way ++ First ∷ []; bound = low } ∷ record { way = way ++ Second ∷ []; bound = high } ∷ [])

-- a run over a pool with its open leaves, the oldest first: each step is at the oldest of least bound, and what comes of it
-- is younger than all others
pub data IsBestFirst (i : Instance) (budget : ℕ) (kept : List Route) : List Route → SearchState → List AgedLeaf → Type 0 where
  Begins : (s : SearchState) (bound : ℤ) (start : IsStart i budget s)
      (is : IsBoundIn (root_limits i) (zero_prices (root_limits i)) bound)
      → IsBestFirst i budget kept kept s (record { way = []; bound = bound } ∷ [])
  Takes : (columns pool : List Route) (s t : SearchState) (leaves others new : List AgedLeaf) (leaf : AgedLeaf)
      (run : IsBestFirst i budget kept columns s leaves) (due : IsDue leaves leaf others)
      (step : IsSearchStep i leaf.way PIVOTS columns pool s t) (come : ComeOf (root_limits i) leaf.way s.tree t.tree new)
      → IsBestFirst i budget kept pool t (others ++ new)
