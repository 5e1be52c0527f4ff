-- ways from the root of a tree: the side of each split that they take
use Rattle.std.specs.Prelude.{◌≡◌, ◌≢◌, ◌++◌, List, [], ◌∷◌}
use Rattle.crew_terms.specs.Limits.{Limits}
use Rattle.crew_terms.specs.Leaf.{Prices}
use Rattle.crew_terms.specs.Branches.{LeafNode, SplitNode}
use Rattle.crew_terms.specs.Tree.{child}
use Rattle.crew_terms.specs.declared.Side.{Side}
use Rattle.crew_terms.specs.declared.Side.TheVariants.{First, Second}
use Rattle.search_terms.specs.SearchTree.{SearchTree, SearchLeaf, OpenLeaf, ClosedLeaf}

-- the limits at the end of the way, where n are those of the root
abbrev pub limits_at : Limits → SearchTree → List Side → Limits
limits_at n (LeafNode leaf) way = n
limits_at n (SplitNode split first second) [] = n
limits_at n (SplitNode split first second) (First ∷ way) = limits_at (child n split.choice First) first way
limits_at n (SplitNode split first second) (Second ∷ way) = limits_at (child n split.choice Second) second way

-- the prices of a leaf
abbrev pub leaf_prices : SearchLeaf → Prices
leaf_prices (OpenLeaf prices) = prices
leaf_prices (ClosedLeaf prices) = prices

-- the prices at the end of the way, if it is a leaf
abbrev pub prices_at : SearchTree → List Side → Prices
prices_at (LeafNode leaf) way = leaf_prices leaf
prices_at (SplitNode split first second) [] = record { pi = []; rho = [] }
prices_at (SplitNode split first second) (First ∷ way) = prices_at first way
prices_at (SplitNode split first second) (Second ∷ way) = prices_at second way

-- the way leads to an open leaf
abbrev pub IsOpenAt : SearchTree → List Side → Type 0
IsOpenAt (LeafNode (OpenLeaf prices)) [] = Unit {0}
IsOpenAt (LeafNode (OpenLeaf prices)) (side ∷ way) = ⊥
IsOpenAt (LeafNode (ClosedLeaf prices)) way = ⊥
IsOpenAt (SplitNode split first second) [] = ⊥
IsOpenAt (SplitNode split first second) (First ∷ way) = IsOpenAt first way
IsOpenAt (SplitNode split first second) (Second ∷ way) = IsOpenAt second way

-- the tree with another one at the end of the way
abbrev pub replaced : SearchTree → List Side → SearchTree → SearchTree
replaced (LeafNode leaf) way new = new
replaced (SplitNode split first second) [] new = new
replaced (SplitNode split first second) (First ∷ way) new = SplitNode split (replaced first way new) second
replaced (SplitNode split first second) (Second ∷ way) new = SplitNode split first (replaced second way new)

-- a way to an open leaf of the tree u leads to one of t, with the same limits and prices
pub record StaysOpen (n : Limits) (t u : SearchTree) (way : List Side) : Type 0 where
  pub leads : IsOpenAt u way
  pub limits : limits_at n u way ≡ limits_at n t way
  pub prices : prices_at u way ≡ prices_at t way

-- a way to an open leaf, after a change at the end of another way, was one before, or goes on from there
pub data CameFrom (t : SearchTree) (way : List Side) (new : SearchTree) (other : List Side) : Type 0 where
  Before : (leads : IsOpenAt t other) (apart : other ≢ way) → CameFrom t way new other
  Below : (rest : List Side) (is : other ≡ way ++ rest) (leads : IsOpenAt new rest) → CameFrom t way new other
