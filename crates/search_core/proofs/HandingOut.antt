-- what a search hands out, from its fields
use Rattle.std.proofs.Common.{◌≡◌, ◌+◌, ◌∷◌, [], ℕ, zero, suc, List, map, refl, ap, sym, subst, arith}
use Rattle.std.specs.Prelude.{Bool, true, false, ◌==◌}
use Rattle.std.proofs.lemmas.Bool.{eqb-true}
use Rattle.branch_tree.specs.declared.tree.LeafState.TheVariants as states
use Rattle.crew_terms.specs.Branches.{LeafNode, SplitNode, Claim, Bare, Open, Closed, splits}
use Rattle.crew_terms.specs.Leaf.{Prices}
use Rattle.crew_terms.specs.Limits.{Route}
use Rattle.crew_terms.specs.Tree.{Priced, Tree}
use Rattle.search_core.specs.Ordered.{cause_with}
use Rattle.search_core.specs.Searching.{cause_at, split_cause}
use Rattle.search_core.specs.declared.causes.Cause.{Cause}
use Rattle.search_terms.specs.Search.{IsHandedOut, SearchState, Untaken, Whole, best}
use Rattle.search_terms.specs.SearchTree.{ClosedLeaf, IsClaimOf, IsTreeOf, OpenLeaf, SearchLeaf, SearchTree, SplitCause}
use Rattle.search_tree.specs.declared.nodes.Content.{Content}
use Rattle.search_tree.specs.declared.nodes.Content.TheVariants as content
use Rattle.search_tree.specs.declared.nodes.Node.{Node}
use Rattle.search_tree.specs.Numbered.{grown, node_of, tree_at}
use Rattle.search_core.specs.Outline.{IsClaimed, IsPricedAs, claimed, handed_out, outline, outline_with}

grown_splits : (p q : ℕ → Prices) (c d : ℕ → SplitCause) (k : Content) (low high : ℕ → SearchTree)
    → ((n : ℕ) → splits (low n) ≡ splits (high n)) → splits (grown p c k low) ≡ splits (grown q d k high)
grown_splits p q c d (content.Open x) low high same = refl
grown_splits p q c d (content.Closed x) low high same = refl
grown_splits p q c d (content.Split choice cause first) low high same =
    let a = same first in
    let b = same (first + 1) in
    omega arith

-- the tree has as many splits, whatever its numbers stand for
pub same_splits : (p q : ℕ → Prices) (c d : ℕ → SplitCause) (levels : ℕ) (nodes : List Node) (n : ℕ)
    → splits (tree_at p c levels nodes n) ≡ splits (tree_at q d levels nodes n)
unfolding tree_at
same_splits p q c d zero nodes n = refl
same_splits p q c d (suc levels) nodes n =
    grown_splits p q c d (node_of nodes n).content (tree_at p c levels nodes) (tree_at q d levels nodes) (same_splits p q c d levels nodes)

-- causes of numbers, of the columns that are held
pub causes_held : (held : List Route) (causes : List Cause) (numbers : List ℕ)
    → map (split_cause held) (map (cause_with causes) numbers) ≡ map (cause_at held causes) numbers
causes_held held causes [] = refl
causes_held held causes (k ∷ numbers) = ap (λ (xs : List SplitCause). cause_at held causes k ∷ xs) (causes_held held causes numbers)

-- ---- trees with worths and potentials beside the prices

claims : (leaf : SearchLeaf) (claim : Claim Priced) → IsClaimed (claimed leaf) claim → IsClaimOf leaf claim
claims (OpenLeaf p) Bare h = absurd (let e = h in cc)
claims (OpenLeaf p) (Open x) h = h.1
claims (OpenLeaf p) (Closed x) h = absurd (let e = h.0 in cc)
claims (ClosedLeaf p) Bare h = absurd (let e = h in cc)
claims (ClosedLeaf p) (Open x) h = absurd (let e = h.0 in cc)
claims (ClosedLeaf p) (Closed x) h = h.1

-- they are trees of the search's
pub outlined : (s : SearchTree) (t : Tree) → IsPricedAs (outline s) t → IsTreeOf s t
outlined (LeafNode leaf) (LeafNode claim) h = claims leaf claim h
outlined (LeafNode leaf) (SplitNode choice low high) h = elim h [ ]
outlined (SplitNode split first second) (LeafNode claim) h = elim h [ ]
outlined (SplitNode split first second) (SplitNode choice low high) (e, h, k) = (e, outlined first low h, outlined second high k)

bare_tree : (p : Prices) (t : Tree) → IsPricedAs (LeafNode (record { state = states.Bare; prices = p })) t → t ≡ LeafNode Bare
bare_tree p (LeafNode Bare) h = refl
bare_tree p (LeafNode (Open x)) h = absurd (let e = h.0 in cc)
bare_tree p (LeafNode (Closed x)) h = absurd (let e = h.0 in cc)
bare_tree p (SplitNode choice low high) h = elim h [ ]

-- a tree as it is handed out
pub is_handed : (s : SearchState) (t : Tree) (u : SearchTree) → s.tree ≡ u → (b : Bool) → (b ≡ true → best s ≡ 0) → IsPricedAs (outline_with b u) t → IsHandedOut s t
is_handed s t (LeafNode (OpenLeaf p)) root true none h = Untaken p root (none refl) (bare_tree p t h)
is_handed s t (LeafNode (OpenLeaf p)) root false none h = Whole (subst (λ (x : SearchTree). IsTreeOf x t) (sym root) (outlined (LeafNode (OpenLeaf p)) t h))
is_handed s t (LeafNode (ClosedLeaf p)) root b none h = Whole (subst (λ (x : SearchTree). IsTreeOf x t) (sym root) (outlined (LeafNode (ClosedLeaf p)) t h))
is_handed s t (SplitNode split first second) root b none h =
    Whole (subst (λ (x : SearchTree). IsTreeOf x t) (sym root) (outlined (SplitNode split first second) t h))

pub handed : (s : SearchState) (t : Tree) → IsPricedAs (handed_out s) t → IsHandedOut s t
handed s t h = is_handed s t s.tree refl (best s == 0) (λ e. eqb-true (best s) 0 e) h
