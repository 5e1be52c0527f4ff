-- a tree whose open leaves prove l, and whose closed leaves prove u, is sound
use Rattle.std.proofs.Common.{◌≡◌, ◌≤◌, ◌+◌, ℕ, refl, ap, arith}
use Rattle.crew_terms.specs.Limits.{Limits}
use Rattle.crew_terms.specs.Leaf.{Prices, bound_of}
use Rattle.crew_terms.specs.Branches.{LeafNode, SplitNode, Claim, Bare, Open, Closed, splits, closed}
use Rattle.crew_terms.specs.Tree.{Tree, Priced, IsSound, child}
use Rattle.crew_terms.specs.declared.Side.TheVariants.{First, Second}
use Rattle.search_terms.specs.Proven.{PricesProve}
use Rattle.search_terms.specs.SearchTree.{SearchTree, SearchLeaf, OpenLeaf, ClosedLeaf, EachLeaf, EachOpen, IsTreeOf, IsClaimOf, closed_leaves}
use Rattle.search_terms.specs.Search.{SearchState, best, IsHandedOut, Whole, Untaken}
use Rattle.crew_terms.specs.Bounds.{proves_less}
use Rattle.search_laws.proofs.Ways.{AreValid}

-- P holds of the prices of the leaf, if it is closed
abbrev pub IfClosed : (Limits → Prices → Type 0) → Limits → SearchLeaf → Type 0
IfClosed P n (OpenLeaf prices) = Unit {0}
IfClosed P n (ClosedLeaf prices) = P n prices

abbrev pub EachClosed : (Limits → Prices → Type 0) → Limits → SearchTree → Type 0
EachClosed P n t = EachLeaf (IfClosed P) n t

abbrev pub SoundTree : SearchTree → Limits → ℕ → ℕ → Type 0
SoundTree s n l u = (t : Tree) × IsTreeOf s t × IsSound t n l u

pub sound_tree : (s : SearchTree) (n : Limits) (l u : ℕ) → l ≤ u → EachOpen (λ m p. PricesProve m p l) n s → EachClosed (λ m p. PricesProve m p u) n s → AreValid n s → SoundTree s n l u
sound_tree (LeafNode (OpenLeaf p)) n l u le opened closed_too valid =
    (LeafNode (Open (record { prices = p; worths = opened.worths; phi = opened.phi })), refl, opened.proved)
sound_tree (LeafNode (ClosedLeaf p)) n l u le opened closed_too valid = (
  LeafNode (Closed (record { prices = p; worths = closed_too.worths; phi = closed_too.phi })),
  refl,
  ((closed_too.proved.0, proves_less (bound_of n p closed_too.worths) u l le closed_too.proved.1), closed_too.proved),
)
sound_tree (SplitNode split first second) n l u le opened closed_too valid =
    let low = sound_tree first (child n split.choice First) l u le opened.0 closed_too.0 valid.1 in
    let high = sound_tree second (child n split.choice Second) l u le opened.1 closed_too.1 valid.2 in
    (SplitNode split.choice low.0 high.0, (refl, low.1, high.1), (valid.0.can, low.2, high.2))

-- ---- what is handed out

abbrev pub HandedOut : SearchState → Limits → ℕ → ℕ → Type 0
HandedOut s n l u = (t : Tree) × IsHandedOut s t × IsSound t n l u

pub handed_sound : (s : SearchState) (n : Limits) (l : ℕ) → SoundTree s.tree n l (best s) → HandedOut s n l (best s)
handed_sound s n l (t, has, sound) = (t, Whole has, sound)

claim_counts : (leaf : SearchLeaf) (claim : Claim Priced) → IsClaimOf leaf claim → closed {S = Tree} (LeafNode claim) ≡ closed_leaves (LeafNode leaf)
claim_counts (OpenLeaf p) Bare h = elim h [ ]
claim_counts (OpenLeaf p) (Open x) h = refl
claim_counts (OpenLeaf p) (Closed x) h = elim h [ ]
claim_counts (ClosedLeaf p) Bare h = elim h [ ]
claim_counts (ClosedLeaf p) (Open x) h = elim h [ ]
claim_counts (ClosedLeaf p) (Closed x) h = refl

tree_counts : (s : SearchTree) (t : Tree) → IsTreeOf s t → splits t + closed t ≡ splits s + closed_leaves s
tree_counts (LeafNode leaf) (LeafNode claim) h = let a = claim_counts leaf claim h in omega arith
tree_counts (LeafNode leaf) (SplitNode choice low high) h = elim h [ ]
tree_counts (SplitNode split first second) (LeafNode claim) h = elim h [ ]
tree_counts (SplitNode split first second) (SplitNode choice low high) (e, h, k) =
    let a = tree_counts first low h in let b = tree_counts second high k in omega arith

pub handed_counts : (s : SearchState) (t : Tree) → IsHandedOut s t → splits t + closed t ≡ splits s.tree + closed_leaves s.tree
handed_counts s t (Whole has) = tree_counts s.tree t has
handed_counts s t (Untaken prices root none is) =
    let a = ap splits is in let b = ap closed is in let c = ap splits root in let d = ap closed_leaves root in omega arith
