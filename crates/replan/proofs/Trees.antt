-- the tree of a search, as it is written: with worths and potentials beside its prices
use Rattle.std.proofs.Common.{◌≡◌, ◌≤◌, ℕ, subst, sym, arith}
use Rattle.branch_tree.specs.Trees.{BranchTree}
use Rattle.cert_write.specs.Dossiers.{IsPricedLeaf, IsPricedTree}
use Rattle.cert_write.specs.Given.{IsPriced}
use Rattle.crew_terms.specs.Branches.{LeafNode, SplitNode, Bare, Open, Closed}
use Rattle.crew_terms.specs.Leaf.{Prices}
use Rattle.crew_terms.specs.Limits.{Limits}
use Rattle.crew_terms.specs.Plan.{unassigned_count}
use Rattle.crew_terms.specs.Rules.{IsInstance}
use Rattle.crew_terms.specs.Tree.{Tree, child}
use Rattle.crew_terms.specs.declared.Choice.{Choice}
use Rattle.crew_terms.specs.declared.Side.TheVariants.{First, Second}
use Rattle.crew_terms.specs.Nodes.{child_instance}
use Rattle.dossier_terms.specs.Dossier.{Leaf, Written, prices_of, tree_of}
use Rattle.replan.specs.Rounds.{EachLeftProves}
use Rattle.search_terms.specs.Proven.{PricesProve}
use Rattle.search_terms.specs.Search.{IsHandedOut, SearchState, Untaken, Whole}
use Rattle.search_terms.specs.SearchTree.{ClosedLeaf, EachOpen, IsTreeOf, OpenLeaf, SearchTree}
use Rattle.search_core.specs.Outline.{IsPricedAs}
use Rattle.written_laws.specs.Proved.{IsProvedTree}

abbrev pub KeepPrices : Type 0
KeepPrices = (n : Limits) (p : Prices) (leaf : Leaf) → IsInstance n.instance → IsPriced n p → IsPricedLeaf n p leaf → prices_of n leaf ≡ p

-- what is written of it has its prices
pub priced_as : KeepPrices → (n : Limits) → IsInstance n.instance → (l u : ℕ) (t : BranchTree) (w : Written) → IsProvedTree n l u t → IsPricedTree n t w → IsPricedAs t (tree_of n w)
priced_as keep n inst l u (LeafNode given) (LeafNode Bare) is h = h
priced_as keep n inst l u (LeafNode given) (LeafNode (Open leaf)) is h = (h.0, keep n given.prices leaf inst is.0 h.1)
priced_as keep n inst l u (LeafNode given) (LeafNode (Closed leaf)) is h = (h.0, keep n given.prices leaf inst is.0 h.1)
priced_as keep n inst l u (LeafNode given) (SplitNode split low high) is h = absurd h
priced_as keep n inst l u (SplitNode choice first second) (LeafNode claim) is h = absurd h
priced_as keep n inst l u (SplitNode choice first second) (SplitNode split low high) is h =
    let one : IsPricedAs first (tree_of (child n choice First) low) =
    priced_as keep (child n choice First) (subst IsInstance (sym (child_instance n choice First)) inst) l u first low is.1 h.1 in
    let two : IsPricedAs second (tree_of (child n choice Second) high) =
    priced_as keep (child n choice Second) (subst IsInstance (sym (child_instance n choice Second)) inst) l u second high is.2 h.2 in (
      sym h.0,
      subst (λ (c : Choice). IsPricedAs first (tree_of (child n c First) low)) h.0 one,
      subst (λ (c : Choice). IsPricedAs second (tree_of (child n c Second) high)) h.0 two,
    )

-- ---- what its open leaves prove, the bare and open leaves that are handed out prove, and the other way round

abbrev Proves : ℕ → Limits → Prices → Type 0
Proves l n p = PricesProve n p l

left_proves : (n : Limits) (l : ℕ) (s : SearchTree) (t : Tree) → IsTreeOf s t → EachOpen (Proves l) n s → EachLeftProves n l t
left_proves n l (LeafNode (OpenLeaf p)) (LeafNode Bare) has open_ones = absurd has
left_proves n l (LeafNode (OpenLeaf p)) (LeafNode (Open x)) has open_ones = subst (λ (q : Prices). PricesProve n q l) (sym has) open_ones
left_proves n l (LeafNode (OpenLeaf p)) (LeafNode (Closed x)) has open_ones = absurd has
left_proves n l (LeafNode (ClosedLeaf p)) (LeafNode Bare) has open_ones = absurd has
left_proves n l (LeafNode (ClosedLeaf p)) (LeafNode (Open x)) has open_ones = absurd has
left_proves n l (LeafNode (ClosedLeaf p)) (LeafNode (Closed x)) has open_ones = tt
left_proves n l (LeafNode leaf) (SplitNode choice low high) has open_ones = absurd has
left_proves n l (SplitNode split first second) (LeafNode claim) has open_ones = absurd has
left_proves n l (SplitNode split first second) (SplitNode choice low high) has open_ones =
    let one = left_proves (child n split.choice First) l first low has.1 open_ones.0 in
    let two = left_proves (child n split.choice Second) l second high has.2 open_ones.1 in
    (subst (λ (c : Choice). EachLeftProves (child n c First) l low) (sym has.0) one, subst (λ (c : Choice). EachLeftProves (child n c Second) l high) (sym has.0) two)

open_proves : (n : Limits) (l : ℕ) (s : SearchTree) (t : Tree) → IsTreeOf s t → EachLeftProves n l t → EachOpen (Proves l) n s
open_proves n l (LeafNode (OpenLeaf p)) (LeafNode Bare) has left = absurd has
open_proves n l (LeafNode (OpenLeaf p)) (LeafNode (Open x)) has left = subst (λ (q : Prices). PricesProve n q l) has left
open_proves n l (LeafNode (OpenLeaf p)) (LeafNode (Closed x)) has left = absurd has
open_proves n l (LeafNode (ClosedLeaf p)) t has left = tt
open_proves n l (LeafNode leaf) (SplitNode choice low high) has left = absurd has
open_proves n l (SplitNode split first second) (LeafNode claim) has left = absurd has
open_proves n l (SplitNode split first second) (SplitNode choice low high) has left = (
  open_proves (child n split.choice First) l first low has.1 (subst (λ (c : Choice). EachLeftProves (child n c First) l low) has.0 left.0),
  open_proves (child n split.choice Second) l second high has.2 (subst (λ (c : Choice). EachLeftProves (child n c Second) l high) has.0 left.1),
)

module _ (n : Limits) (s : SearchState) (t : Tree) where
  pub handed_proves : (l : ℕ) → IsHandedOut s t → l ≤ unassigned_count s.plan → EachOpen (Proves l) n s.tree → EachLeftProves n l t
  handed_proves l (Whole has) few open_ones = left_proves n l s.tree t has open_ones
  handed_proves l (Untaken prices root none is) few open_ones = subst (EachLeftProves n l) (sym is) (let e : l ≡ 0 = omega (arith, none, few) in e)

  pub no_more : (l b : ℕ) → IsHandedOut s t → (EachOpen (Proves l) n s.tree → l ≤ b) → EachLeftProves n l t → l ≤ b
  no_more l b (Whole has) most left = most (open_proves n l s.tree t has left)
  no_more l b (Untaken prices root none is) most left = let e : l ≡ 0 = subst (EachLeftProves n l) is left in omega (arith, e)
