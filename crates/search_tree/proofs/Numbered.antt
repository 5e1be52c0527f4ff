-- the tree of nodes depends on the prices and causes of their numbers alone
use Rattle.std.proofs.Common.{◌≡◌, ◌≢◌, ◌≤◌, ◌<◌, ◌+◌, ◌-◌, ◌++◌, ◌∙◌, ◌⊎◌, inl, inr, ℕ, zero, suc, List, [], ◌∷◌, length, ap, sym, subst, arith, get_or-set_other, get_or-set_same}
use Rattle.std.specs.Prelude.{slice_set}
use Rattle.std.proofs.lemmas.Bool.{cases_eq, cases_lt}
use Rattle.std.proofs.lemmas.List.{get_or_append_left, get_or-append-add, get_or_past, length-set}
use Rattle.crew_terms.specs.Leaf.{Prices}
use Rattle.crew_terms.specs.Branches.{LeafNode, SplitNode}
use Rattle.crew_terms.specs.declared.Side.TheVariants.{First, Second}
use Rattle.search_terms.specs.SearchTree.{SearchTree, SplitCause, OpenLeaf, ClosedLeaf}
use Rattle.search_tree.specs.declared.nodes.Content.{Content}
use Rattle.search_tree.specs.declared.nodes.Content.TheVariants as content
use Rattle.search_tree.specs.declared.nodes.Node.{Node}
use Rattle.search_tree.specs.Numbered.{grown, node_of, root_node, leaf_below, tree_at, with_content, with_children}
use Rattle.search_tree.specs.Numbers.{HasNumber, HaveNumbers}

same_grown : (prices causes : ℕ) (p q : ℕ → Prices) (c d : ℕ → SplitCause) (k : Content) (below other : ℕ → SearchTree) → HasNumber prices causes k
    → ((m : ℕ) → m < prices → p m ≡ q m) → ((m : ℕ) → m < causes → c m ≡ d m) → ((m : ℕ) → below m ≡ other m)
    → grown p c k below ≡ grown q d k other
same_grown prices causes p q c d (content.Open m) below other has e f same = ap (λ (x : Prices). LeafNode (OpenLeaf x)) (e m has)
same_grown prices causes p q c d (content.Closed m) below other has e f same = ap (λ (x : Prices). LeafNode (ClosedLeaf x)) (e m has)
same_grown prices causes p q c d (content.Split choice cause first) below other has e f same =
    ap (λ (x : SplitCause). SplitNode (record { choice = choice; cause = x }) (below first) (below (first + 1))) (f cause has)
    ∙ ap (λ (t : SearchTree). SplitNode (record { choice = choice; cause = d cause }) t (below (first + 1))) (same first)
    ∙ ap (λ (t : SearchTree). SplitNode (record { choice = choice; cause = d cause }) (other first) t) (same (first + 1))

pub same_tree : (prices causes : ℕ) (p q : ℕ → Prices) (c d : ℕ → SplitCause) (nodes : List Node) → 0 < prices → HaveNumbers prices causes nodes
    → ((k : ℕ) → k < prices → p k ≡ q k) → ((k : ℕ) → k < causes → c k ≡ d k) → (f n : ℕ) → tree_at p c f nodes n ≡ tree_at q d f nodes n
unfolding tree_at
same_tree prices causes p q c d nodes some has e g zero n = ap (λ (x : Prices). LeafNode (OpenLeaf x)) (e 0 some)
same_tree prices causes p q c d nodes some has e g (suc f) n =
    same_grown prices causes p q c d (node_of nodes n).content (tree_at p c f nodes) (tree_at q d f nodes) (has n) e g
    (same_tree prices causes p q c d nodes some has e g f)

pub more_number : (prices causes more most : ℕ) (k : Content) → prices ≤ more → causes ≤ most → HasNumber prices causes k → HasNumber more most k
more_number prices causes more most (content.Open m) l h has = omega arith
more_number prices causes more most (content.Closed m) l h has = omega arith
more_number prices causes more most (content.Split choice cause first) l h has = omega arith

-- a number that no node has is that of the root, open with the first prices
beyond : (nodes : List Node) (n : ℕ) → length nodes ≤ n → node_of nodes n ≡ root_node 0
beyond nodes n past = get_or_past nodes n (root_node 0) past

pub root_numbers : (prices causes k : ℕ) → k < prices → HaveNumbers prices causes (root_node k ∷ [])
root_numbers prices causes k l zero = l
root_numbers prices causes k l (suc n) = omega arith

pub content_numbers : (prices causes n : ℕ) (new : Content) (nodes : List Node) → HaveNumbers prices causes nodes → HasNumber prices causes new
    → HaveNumbers prices causes (with_content nodes n new)
content_numbers prices causes n new nodes has is m = by (cases_eq m n) (cases_lt n (length nodes))
  where
    put : Node
    put = record (node_of nodes n) { content = new }

    by : (m ≡ n) ⊎ (m ≢ n) → (n < length nodes) ⊎ (length nodes ≤ n) → HasNumber prices causes (node_of (slice_set nodes n put) m).content
    by (inr ne) in_range = subst (λ (x : Node). HasNumber prices causes x.content) (sym (get_or-set_other nodes n m put (root_node 0) ne)) (has m)
    by (inl here) (inl l) = subst (λ x. HasNumber prices causes (node_of (slice_set nodes n put) x).content) (sym here)
        (subst (λ (x : Node). HasNumber prices causes x.content) (sym (get_or-set_same nodes n put (root_node 0) l)) is)
    by (inl here) (inr past) =
        let e = length-set nodes n put in
        subst (λ (x : Node). HasNumber prices causes x.content)
        (beyond nodes m (omega arith) ∙ sym (beyond (slice_set nodes n put) m (omega arith))) (has m)

pub children_numbers : (prices causes n k : ℕ) (nodes : List Node) → HaveNumbers prices causes nodes → k < prices
    → HaveNumbers prices causes (with_children nodes n k)
children_numbers prices causes n k nodes has l m = by (cases_lt m (length nodes))
  where
    pair : List Node
    pair = leaf_below n First k ∷ leaf_below n Second k ∷ []

    behind : (j : ℕ) → HasNumber prices causes (node_of pair j).content
    behind zero = l
    behind (suc zero) = l
    behind (suc (suc j)) = omega arith

    by : (m < length nodes) ⊎ (length nodes ≤ m) → HasNumber prices causes (node_of (nodes ++ pair) m).content
    by (inl known) = subst (λ (x : Node). HasNumber prices causes x.content) (sym (get_or_append_left nodes pair (root_node 0) m known)) (has m)
    by (inr past) =
        let j : ℕ = m - length nodes in
        let e : length nodes + j ≡ m = omega arith in
        subst (λ x. HasNumber prices causes (node_of (nodes ++ pair) x).content) e
        (subst (λ (x : Node). HasNumber prices causes x.content) (sym (get_or-append-add nodes pair j (root_node 0))) (behind j))
