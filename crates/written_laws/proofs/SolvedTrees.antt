-- trees that a search hands out are proved
use Rattle.std.proofs.Common.{◌≡◌, ◌∙◌, ◌+◌, ◌++◌, ◌∷◌, [], ℕ, List, length, refl, ap, sym, subst, arith}
use Rattle.std.specs.Prelude.{All, Bool, true, false, ◌==◌, zero, suc}
use Rattle.std.proofs.lemmas.List.Elements.{All-cons, All-head, All-nil, All-tail}
use Rattle.branch_tree.specs.Trees.{BranchTree, closed, preorder}
use Rattle.branch_tree.specs.declared.tree.LeafState.TheVariants as states
use Rattle.branch_tree.specs.declared.tree.Node.{Node}
use Rattle.branch_tree.specs.declared.tree.Node.TheVariants as nodes
use Rattle.cert_write.specs.Given.{IsPriced}
use Rattle.crew_terms.specs.Branches.{LeafNode, SplitNode, Bare, Open, Closed, splits}
use Rattle.crew_terms.specs.Instance.{Instance}
use Rattle.crew_terms.specs.Leaf.{IsOnRequired, Prices}
use Rattle.crew_terms.specs.Limits.{Limits}
use Rattle.crew_terms.specs.Tree.{IsSound, Priced, ProvesIn, Tree, child}
use Rattle.crew_terms.specs.declared.Choice.{Choice}
use Rattle.crew_terms.specs.declared.Side.TheVariants.{First, Second}
use Rattle.crew_terms.specs.Nodes.{child_instance}
use Rattle.potentials.specs.Prices.{ArePricesOf}
use Rattle.search_terms.specs.Proven.{PricesProve}
use Rattle.search_terms.specs.SearchTree.{ClosedLeaf, IsTreeOf, OpenLeaf, SearchTree, SplitCause, closed_leaves}
use Rattle.search_core.specs.Outline.{outline, outline_with}
use Rattle.search_core.specs.Visited.{HasPricesOf}
use Rattle.written_laws.specs.Proved.{IsProvedTree}

-- ---- numbers

pub outline_splits : (s : SearchTree) (b : Bool) → splits (outline_with b s) ≡ splits s
outline_splits s b = with_splits s b
  where
    whole : (s : SearchTree) → splits (outline s) ≡ splits s
    whole (LeafNode leaf) = refl
    whole (SplitNode split first second) = let a = whole first in let b = whole second in omega arith

    with_splits : (s : SearchTree) (b : Bool) → splits (outline_with b s) ≡ splits s
    with_splits (LeafNode (OpenLeaf p)) true = refl
    with_splits (LeafNode (OpenLeaf p)) false = refl
    with_splits (LeafNode (ClosedLeaf p)) b = refl
    with_splits (SplitNode split first second) b = whole (SplitNode split first second)

pub outline_closed : (s : SearchTree) (b : Bool) → closed (outline_with b s) ≡ closed_leaves s
outline_closed s b = with_closed s b
  where
    whole : (s : SearchTree) → closed (outline s) ≡ closed_leaves s
    whole (LeafNode (OpenLeaf p)) = refl
    whole (LeafNode (ClosedLeaf p)) = refl
    whole (SplitNode split first second) = let a = whole first in let b = whole second in omega arith

    with_closed : (s : SearchTree) (b : Bool) → closed (outline_with b s) ≡ closed_leaves s
    with_closed (LeafNode (OpenLeaf p)) true = refl
    with_closed (LeafNode (OpenLeaf p)) false = refl
    with_closed (LeafNode (ClosedLeaf p)) b = refl
    with_closed (SplitNode split first second) b = whole (SplitNode split first second)

-- ---- what leaves prove

all_front : (P : Node → Type 0) (xs ys : List Node) → All P (xs ++ ys) → All P xs
all_front P [] ys h = All-nil P
all_front P (x ∷ xs) ys h = All-cons P x xs (All-head P x (xs ++ ys) h) (all_front P xs ys (All-tail P x (xs ++ ys) h))

all_back : (P : Node → Type 0) (xs ys : List Node) → All P (xs ++ ys) → All P ys
all_back P [] ys h = h
all_back P (x ∷ xs) ys h = all_back P xs ys (All-tail P x (xs ++ ys) h)

-- prices of an instance are prices of each of its nodes
same_shape : (n m : Limits) (p : Prices) → n.instance ≡ m.instance → ArePricesOf m p → ArePricesOf n p
same_shape n m p same shape = record {
  tasks = shape.tasks ∙ ap (λ (i : Instance). length i.tasks) (sym same);
  teams = shape.teams ∙ ap (λ (i : Instance). length i.teams) (sym same);
}

priced : (n root : Limits) (l : ℕ) (x : Priced) (p : Prices) (leaf : Node) → n.instance ≡ root.instance → x.prices ≡ p → ProvesIn n x l
    → HasPricesOf root (nodes.Leaf states.Open p) → IsPriced n p
priced n root l x p leaf same is sound shape = record {
  prices = shape.0;
  counts = same_shape n root p same shape.1;
  required = subst (λ (q : Prices). IsOnRequired n q) is sound.0.priced;
}

proves : (n : Limits) (l : ℕ) (x : Priced) (p : Prices) → x.prices ≡ p → ProvesIn n x l → PricesProve n p l
proves n l x p is sound = record {
  worths = x.worths;
  phi = x.phi;
  proved = subst (λ (q : Prices). ProvesIn n (record { prices = q; worths = x.worths; phi = x.phi }) l) is sound;
}

-- with sound worths and potentials, the tree is proved
pub proved_tree : (s : SearchTree) (t : Tree) (n root : Limits) (l u : ℕ) → n.instance ≡ root.instance → IsTreeOf s t → IsSound t n l u
    → All (HasPricesOf root) (preorder (outline s)) → IsProvedTree n l u (outline s)
proved_tree (LeafNode (OpenLeaf p)) (LeafNode Bare) n root l u same has sound shapes = elim has [ ]
proved_tree (LeafNode (OpenLeaf p)) (LeafNode (Open x)) n root l u same has sound shapes =
    let shape = All-head (HasPricesOf root) (nodes.Leaf states.Open p) [] shapes in
    (priced n root l x p (nodes.Leaf states.Open p) same has sound shape, proves n l x p has sound)
proved_tree (LeafNode (OpenLeaf p)) (LeafNode (Closed x)) n root l u same has sound shapes = elim has [ ]
proved_tree (LeafNode (ClosedLeaf p)) (LeafNode Bare) n root l u same has sound shapes = elim has [ ]
proved_tree (LeafNode (ClosedLeaf p)) (LeafNode (Open x)) n root l u same has sound shapes = elim has [ ]
proved_tree (LeafNode (ClosedLeaf p)) (LeafNode (Closed x)) n root l u same has sound shapes =
    let shape = All-head (HasPricesOf root) (nodes.Leaf states.Closed p) [] shapes in
    (priced n root l x p (nodes.Leaf states.Closed p) same has sound.0 shape, (proves n l x p has sound.0, proves n u x p has sound.1))
proved_tree (LeafNode leaf) (SplitNode choice low high) n root l u same has sound shapes = elim has [ ]
proved_tree (SplitNode split first second) (LeafNode claim) n root l u same has sound shapes = elim has [ ]
proved_tree (SplitNode split first second) (SplitNode choice low high) n root l u same (e, one, two) sound shapes =
    let c : Choice = split.choice in
    let is : IsSound (SplitNode c low high) n l u = subst (λ (d : Choice). IsSound (SplitNode d low high) n l u) e sound in
    let rest = All-tail (HasPricesOf root) (nodes.Split c) (preorder (outline first) ++ preorder (outline second)) shapes in (
      is.0,
      proved_tree first low (child n c First) root l u (child_instance n c First ∙ same) one is.1
          (all_front (HasPricesOf root) (preorder (outline first)) (preorder (outline second)) rest),
      proved_tree second high (child n c Second) root l u (child_instance n c Second ∙ same) two is.2
          (all_back (HasPricesOf root) (preorder (outline first)) (preorder (outline second)) rest),
    )

-- with a bare root, where that claims nothing
pub proved_with : (s : SearchTree) (t : Tree) (n : Limits) (l u : ℕ) (b : Bool) → (b ≡ true → l ≡ 0) → IsTreeOf s t → IsSound t n l u
    → All (HasPricesOf n) (preorder (outline_with b s)) → IsProvedTree n l u (outline_with b s)
proved_with (LeafNode (OpenLeaf p)) (LeafNode Bare) n l u true none has sound shapes = elim has [ ]
proved_with (LeafNode (OpenLeaf p)) (LeafNode (Open x)) n l u true none has sound shapes =
    let shape = All-head (HasPricesOf n) (nodes.Leaf states.Bare p) [] shapes in
    (priced n n l x p (nodes.Leaf states.Bare p) refl has sound shape, none refl)
proved_with (LeafNode (OpenLeaf p)) (LeafNode (Closed x)) n l u true none has sound shapes = elim has [ ]
proved_with (LeafNode (OpenLeaf p)) (SplitNode choice low high) n l u true none has sound shapes = elim has [ ]
proved_with (LeafNode (OpenLeaf p)) t n l u false none has sound shapes = proved_tree (LeafNode (OpenLeaf p)) t n n l u refl has sound shapes
proved_with (LeafNode (ClosedLeaf p)) t n l u b none has sound shapes = proved_tree (LeafNode (ClosedLeaf p)) t n n l u refl has sound shapes
proved_with (SplitNode split first second) t n l u b none has sound shapes =
    proved_tree (SplitNode split first second) t n n l u refl has sound shapes
