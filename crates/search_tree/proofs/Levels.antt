-- how many levels are looked at makes no difference, where they are enough
use Rattle.std.proofs.Common.{◌≡◌, ◌≤◌, ◌<◌, ◌+◌, ◌++◌, ◌∙◌, ℕ, zero, suc, List, [], ◌∷◌, Some, length, refl, ap, sym, arith}
use Rattle.crew_terms.specs.Leaf.{Prices}
use Rattle.crew_terms.specs.Branches.{SplitNode}
use Rattle.crew_terms.specs.declared.Side.{Side}
use Rattle.crew_terms.specs.declared.Side.TheVariants.{First, Second}
use Rattle.search_terms.specs.SearchTree.{SearchTree, SplitCause, Split}
use Rattle.search_tree.specs.declared.nodes.Content.{Content}
use Rattle.search_tree.specs.declared.nodes.Content.TheVariants as content
use Rattle.search_tree.specs.declared.nodes.Node.{Node}
use Rattle.search_tree.specs.Numbered.{AreNumbered, node_of, child_of, grown, subtree, tree_at, way_up, way_of}

-- the tree of a node is one, where the trees of its children are
pub grown_same : (p : ℕ → Prices) (c : ℕ → SplitCause) (k : Content) (below other : ℕ → SearchTree)
    → ((side : Side) (m : ℕ) → child_of k side ≡ Some m → below m ≡ other m) → grown p c k below ≡ grown p c k other
grown_same p c (content.Open x) below other same = refl
grown_same p c (content.Closed x) below other same = refl
grown_same p c (content.Split choice cause first) below other same =
    let a : below first ≡ other first = same First first refl in
    let b : below (first + 1) ≡ other (first + 1) = same Second (first + 1) refl in
    let split : Split = record { choice = choice; cause = c cause } in
    ap (λ (t : SearchTree). SplitNode split t (below (first + 1))) a ∙ ap (λ (t : SearchTree). SplitNode split (other first) t) b

pub same_levels : (p : ℕ → Prices) (c : ℕ → SplitCause) (nodes : List Node) → AreNumbered nodes → (f g n : ℕ) → n < length nodes
    → length nodes ≤ n + f → length nodes ≤ n + g → tree_at p c f nodes n ≡ tree_at p c g nodes n
unfolding tree_at
same_levels p c nodes a zero g n l e h = absurd (omega arith)
same_levels p c nodes a (suc f) zero n l e h = absurd (omega arith)
same_levels p c nodes a (suc f) (suc g) n l e h =
    grown_same p c (node_of nodes n).content (tree_at p c f nodes) (tree_at p c g nodes)
    (λ side m is. let k = a.children n m side l is in same_levels p c nodes a f g m k.known (omega arith) (omega arith))

pub root_way : (nodes : List Node) (f : ℕ) → way_up f nodes zero ≡ []
unfolding way_up
root_way nodes zero = refl
root_way nodes (suc f) = refl

pub same_way : (nodes : List Node) → AreNumbered nodes → (f g n : ℕ) → n < length nodes → n ≤ f → n ≤ g
    → way_up f nodes n ≡ way_up g nodes n
unfolding way_up
same_way nodes a f g zero l e h = root_way nodes f ∙ sym (root_way nodes g)
same_way nodes a zero g (suc n) l e h = absurd (omega arith)
same_way nodes a (suc f) zero (suc n) l e h = absurd (omega arith)
same_way nodes a (suc f) (suc g) (suc n) l e h =
    let k = a.parents (suc n) (omega arith) l in
    let b = k.behind in
    ap (λ (w : List Side). w ++ (node_of nodes (suc n)).side ∷ [])
    (same_way nodes a f g (node_of nodes (suc n)).above (omega arith) (omega arith) (omega arith))

-- the way to a child goes on from its split
pub child_way : (nodes : List Node) → AreNumbered nodes → (n m : ℕ) (side : Side) → n < length nodes
    → child_of (node_of nodes n).content side ≡ Some m → way_of nodes m ≡ way_of nodes n ++ side ∷ []
unfolding way_up
child_way nodes a n zero side l is = let k = a.children n zero side l is in let b = k.behind in absurd (omega arith)
child_way nodes a n (suc m) side l is =
    let k = a.children n (suc m) side l is in
    let b = k.behind in
    let d = k.known in
    ap (λ (x : ℕ). way_up m nodes x ++ (node_of nodes (suc m)).side ∷ []) k.above
    ∙ ap (λ (s : Side). way_up m nodes n ++ s ∷ []) k.turned
    ∙ ap (λ (w : List Side). w ++ side ∷ []) (same_way nodes a m n n l (omega arith) (omega arith))

grown_levels : (p : ℕ → Prices) (c : ℕ → SplitCause) (nodes : List Node) (f n : ℕ) → AreNumbered nodes → n < length nodes → f ≡ length nodes
    → tree_at p c f nodes n ≡ grown p c (node_of nodes n).content (tree_at p c f nodes)
unfolding tree_at
grown_levels p c nodes zero n a l e = absurd (omega arith)
grown_levels p c nodes (suc f) n a l e =
    grown_same p c (node_of nodes n).content (tree_at p c f nodes) (tree_at p c (suc f) nodes)
    (λ side m is.
    let k = a.children n m side l is in
    let b = k.behind in
    same_levels p c nodes a f (suc f) m k.known (omega arith) (omega arith))

-- the tree from a node on is made of its content
pub grown_subtree : (p : ℕ → Prices) (c : ℕ → SplitCause) (nodes : List Node) (n : ℕ) → AreNumbered nodes → n < length nodes
    → subtree p c nodes n ≡ grown p c (node_of nodes n).content (subtree p c nodes)
grown_subtree p c nodes n a l = grown_levels p c nodes (length nodes) n a l refl
