-- another tree in the place of a leaf
use Rattle.std.proofs.Common.{◌≡◌, ◌≢◌, ◌≤◌, ◌<◌, ◌+◌, ◌∙◌, ℕ, zero, suc, List, [], ◌∷◌, None, Some, length, refl, ap, sym, subst, arith}
use Rattle.crew_terms.specs.Leaf.{Prices}
use Rattle.crew_terms.specs.Branches.{LeafNode, SplitNode}
use Rattle.crew_terms.specs.declared.Side.{Side}
use Rattle.crew_terms.specs.declared.Side.TheVariants.{First, Second}
use Rattle.search_terms.specs.SearchTree.{SearchTree, SplitCause, Split}
use Rattle.search_terms.specs.Ways.{replaced}
use Rattle.search_tree.specs.declared.nodes.Content.{Content}
use Rattle.search_tree.specs.declared.nodes.Content.TheVariants as content
use Rattle.search_tree.specs.declared.nodes.Node.{Node}
use Rattle.search_tree.specs.Numbered.{AreNumbered, node_of, child_of, grown, tree_at, tree_of, way_of}
use Rattle.search_tree.specs.Ways.{Leads, Here, Along}
use Rattle.search_tree.proofs.Levels.{grown_same, same_levels}
use Rattle.search_tree.proofs.Leading.{leads_behind, leads_to, sides_differ}

-- the nodes stay as they are but for one, and others come behind them
pub record ChangesAt (nodes after : List Node) (j : ℕ) : Type 0 where
  pub numbered : AreNumbered nodes
  pub known : j < length nodes
  pub longer : length nodes ≤ length after
  pub others : (n : ℕ) → n < length nodes → n ≢ j → node_of after n ≡ node_of nodes n

-- a tree from which no way leads to the changed node stays as it is
pub apart : (p : ℕ → Prices) (c : ℕ → SplitCause) (nodes after : List Node) (j : ℕ) → ChangesAt nodes after j
    → (f n : ℕ) → n < length nodes → ((way : List Side) → Leads nodes n way j → ⊥) → tree_at p c f after n ≡ tree_at p c f nodes n
unfolding tree_at
apart p c nodes after j ch zero n l none = refl
apart p c nodes after j ch (suc f) n l none =
    let ne : n ≢ j = λ e. none [] (subst (λ m. Leads nodes n [] m) e (Here n)) in
    ap (λ (k : Node). grown p c k.content (tree_at p c f after)) (ch.others n l ne)
    ∙ grown_same p c (node_of nodes n).content (tree_at p c f after) (tree_at p c f nodes)
    (λ side m is. apart p c nodes after j ch f m (ch.numbered.children n m side l is).known
    (λ way leads. none (side ∷ way) (Along n m j side way is leads)))

-- at the end of a way that goes no further stands what was put there
replaced_here : (t new : SearchTree) → replaced t [] new ≡ new
replaced_here (LeafNode leaf) new = refl
replaced_here (SplitNode split first second) new = refl

-- the tree of a split changes where one of its children does
turned : (p : ℕ → Prices) (c : ℕ → SplitCause) (k : Content) (side : Side) (m : ℕ) (way : List Side) (below old : ℕ → SearchTree) (new : SearchTree)
    → child_of k side ≡ Some m → below m ≡ replaced (old m) way new
    → ((other : Side) (x : ℕ) → other ≢ side → child_of k other ≡ Some x → below x ≡ old x)
    → grown p c k below ≡ replaced (grown p c k old) (side ∷ way) new
turned p c (content.Open x) side m way below old new is here others = let e : None ≡ Some m = is in cc
turned p c (content.Closed x) side m way below old new is here others = let e : None ≡ Some m = is in cc
turned p c (content.Split choice cause first) First m way below old new is here others =
    let e : Some first ≡ Some m = is in
    let same : first ≡ m = cc e in
    let split : Split = record { choice = choice; cause = c cause } in
    let a : below first ≡ replaced (old first) way new = subst (λ x. below x ≡ replaced (old x) way new) (sym same) here in
    let b : below (first + 1) ≡ old (first + 1) = others Second (first + 1) (λ q. let r : Second ≡ First = q in cc) refl in
    ap (λ (t : SearchTree). SplitNode split t (below (first + 1))) a ∙ ap (λ (t : SearchTree). SplitNode split (replaced (old first) way new) t) b
turned p c (content.Split choice cause first) Second m way below old new is here others =
    let e : Some (first + 1) ≡ Some m = is in
    let same : first + 1 ≡ m = cc e in
    let split : Split = record { choice = choice; cause = c cause } in
    let a : below (first + 1) ≡ replaced (old (first + 1)) way new = subst (λ x. below x ≡ replaced (old x) way new) (sym same) here in
    let b : below first ≡ old first = others First first (λ q. let r : First ≡ Second = q in cc) refl in
    ap (λ (t : SearchTree). SplitNode split t (below (first + 1))) b ∙ ap (λ (t : SearchTree). SplitNode split (old first) t) a

-- the new tree stands at the end of each way to the changed node
pub changed : (p : ℕ → Prices) (c : ℕ → SplitCause) (nodes after : List Node) (j : ℕ) (new : SearchTree) → ChangesAt nodes after j
    → ((f : ℕ) → length after ≤ j + f → tree_at p c f after j ≡ new)
    → (f n : ℕ) (way : List Side) → n < length nodes → length after ≤ n + f → Leads nodes n way j
    → tree_at p c f after n ≡ replaced (tree_at p c f nodes n) way new
unfolding tree_at
changed p c nodes after j new ch is f n [] l h (Here n') = is f h ∙ sym (replaced_here (tree_at p c f nodes n) new)
changed p c nodes after j new ch is zero n (s ∷ w) l h (Along n' m j' side way child rest) =
    let a = ch.longer in absurd (omega arith)
changed p c nodes after j new ch is (suc f) n (s ∷ w) l h (Along n' m j' side way child rest) =
    let k = ch.numbered.children n m side l child in
    let b = k.behind in
    let d = leads_behind nodes ch.numbered m j way k.known rest in
    let ne : n ≢ j = λ e. absurd (omega arith) in
    ap (λ (x : Node). grown p c x.content (tree_at p c f after)) (ch.others n l ne)
    ∙ turned p c (node_of nodes n).content side m way (tree_at p c f after) (tree_at p c f nodes) new child
    (changed p c nodes after j new ch is f m way k.known (omega arith) rest)
    (λ other x off at. apart p c nodes after j ch f x (ch.numbered.children n x other l at).known
    (λ out leads. sides_differ nodes ch.numbered n m x j side other way out l off child at rest leads))

-- so in the tree of all nodes
pub tree_changed : (p : ℕ → Prices) (c : ℕ → SplitCause) (nodes after : List Node) (j : ℕ) (new : SearchTree) → ChangesAt nodes after j
    → ((f : ℕ) → length after ≤ j + f → tree_at p c f after j ≡ new)
    → tree_of p c after ≡ replaced (tree_of p c nodes) (way_of nodes j) new
tree_changed p c nodes after j new ch is =
    let known = ch.known in
    let longer = ch.longer in
    changed p c nodes after j new ch is (length after) zero (way_of nodes j) (omega arith) (omega arith)
    (leads_to nodes ch.numbered j j known (omega arith))
    ∙ ap (λ (t : SearchTree). replaced t (way_of nodes j) new)
    (same_levels p c nodes ch.numbered (length after) (length nodes) zero (omega arith) (omega arith) (omega arith))
