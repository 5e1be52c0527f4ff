-- branch trees: each node is a leaf, or it is split into two children
use Rattle.std.specs.Prelude.{◌+◌, max, ℕ, List, [], ◌∷◌, length}
use Rattle.crew_terms.specs.declared.Side.{Side}
use Rattle.crew_terms.specs.declared.Side.TheVariants as sides

-- S is what a split is, and A what a leaf holds
pub data Branches (S A : Type 0) : Type 0 where
  LeafNode : (leaf : A) → Branches S A
  SplitNode : (split : S) (first second : Branches S A) → Branches S A

-- what a leaf claims of the prices that it holds: nothing, that they prove a bound, or the bound and as many unassigned tasks as a plan has
pub data Claim (A : Type 0) : Type 0 where
  Bare : Claim A
  Open : (priced : A) → Claim A
  Closed : (priced : A) → Claim A

-- ---- numbers of a tree

-- the splits of a tree
abbrev pub splits : {S A : Type 0} → Branches S A → ℕ
splits (LeafNode leaf) = 0
splits (SplitNode split first second) = splits first + splits second + 1

-- the sum of a number of each leaf
abbrev pub leaf_sum : {S A : Type 0} → (A → ℕ) → Branches S A → ℕ
leaf_sum f (LeafNode leaf) = f leaf
leaf_sum f (SplitNode split first second) = leaf_sum f first + leaf_sum f second

-- the most splits above a leaf
abbrev pub depth : {S A : Type 0} → Branches S A → ℕ
depth (LeafNode leaf) = 0
depth (SplitNode split first second) = max (depth first) (depth second) + 1

-- 1 of a closed leaf, else 0
abbrev pub closed_in : {A : Type 0} → Claim A → ℕ
closed_in Bare = 0
closed_in (Open priced) = 0
closed_in (Closed priced) = 1

-- 1 of a bare or open leaf, else 0
abbrev pub left_open_in : {A : Type 0} → Claim A → ℕ
left_open_in Bare = 1
left_open_in (Open priced) = 1
left_open_in (Closed priced) = 0

-- the closed leaves
abbrev pub closed : {S A : Type 0} → Branches S (Claim A) → ℕ
closed t = leaf_sum closed_in t

-- the leaves that are bare or open
abbrev pub left_open : {S A : Type 0} → Branches S (Claim A) → ℕ
left_open t = leaf_sum left_open_in t

-- ---- where a node stands in a tree

-- a split above a node: the node is in its first child, or in its second, and the first is whole
pub data Frame (S A : Type 0) : Type 0 where
  InFirst : (split : S) → Frame S A
  InSecond : (split : S) (first : Branches S A) → Frame S A

-- the split above the node
abbrev pub split_of : {S A : Type 0} → Frame S A → S
split_of (InFirst split) = split
split_of (InSecond split first) = split

-- the child that the node is in
abbrev pub side_of : {S A : Type 0} → Frame S A → Side
side_of (InFirst split) = sides.First
side_of (InSecond split first) = sides.Second

-- the sum of a number of each first child that is whole, and of one number of each frame
abbrev pub frame_sum : {S A : Type 0} → (Branches S A → ℕ) → ℕ → List (Frame S A) → ℕ
frame_sum f one [] = 0
frame_sum f one (InFirst split ∷ above) = one + frame_sum f one above
frame_sum f one (InSecond split first ∷ above) = one + f first + frame_sum f one above

-- the greatest depth of a leaf in the first children that are whole
abbrev pub deepest : {S A : Type 0} → List (Frame S A) → ℕ
deepest [] = 0
deepest (InFirst split ∷ above) = deepest above
deepest (InSecond split first ∷ above) = max (deepest above) (length above + 1 + depth first)
