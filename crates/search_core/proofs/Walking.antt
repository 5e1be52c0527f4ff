-- what is still due, in preorder
use Rattle.std.proofs.Common.{◌≡◌, ◌≤◌, ◌<◌, ◌+◌, ◌-◌, ◌*◌, ◌^◌, ◌++◌, ◌∙◌, ◌∷◌, [], ℕ, List, Some, length, map, refl, ap, sym, subst, arith, append_assoc}
use Rattle.std.specs.Prelude.{All, Bool, true, false, None}
use Rattle.std.proofs.lemmas.List.{append-nil, length-append, map-append}
use Rattle.std.proofs.lemmas.List.Elements.{All-append, All-cons, All-nil, All-pop}
use Rattle.branch_tree.specs.Trees.{preorder}
use Rattle.branch_tree.specs.declared.tree.LeafState.TheVariants as states
use Rattle.branch_tree.specs.declared.tree.Node.{Node as OutNode}
use Rattle.crew_terms.specs.Branches.{LeafNode, SplitNode, splits}
use Rattle.crew_terms.specs.Leaf.{Prices}
use Rattle.crew_terms.specs.declared.Side.{Side}
use Rattle.crew_terms.specs.declared.Side.TheVariants.{First, Second}
use Rattle.search_terms.specs.SearchTree.{SearchTree, SplitCause, causes}
use Rattle.search_tree.specs.declared.nodes.Content.{Content}
use Rattle.search_tree.specs.declared.nodes.Content.TheVariants as content
use Rattle.search_tree.specs.declared.nodes.Node.{Node}
use Rattle.search_tree.specs.Numbered.{IsChild, child_of, grown, node_of}
use Rattle.search_core.specs.Outline.{outline, outline_with}
use Rattle.search_tree.specs.Numbers.{HasNumber}
use Rattle.search_core.specs.Visited.{HasChildren, bare_number, cause_in, due_in, node_in}

-- the nodes from a node on
abbrev pub nodes_from : (ℕ → SearchTree) → ℕ → List OutNode
nodes_from below n = preorder (outline (below n))

-- those of all that is due, the last first
abbrev pub nodes_due : (ℕ → SearchTree) → List ℕ → List OutNode
nodes_due below [] = []
nodes_due below (n ∷ due) = nodes_due below due ++ nodes_from below n

abbrev pub causes_due : (ℕ → SearchTree) → List ℕ → List SplitCause
causes_due below [] = []
causes_due below (n ∷ due) = causes_due below due ++ causes (below n)

pub nodes_last : (below : ℕ → SearchTree) (due : List ℕ) (n : ℕ) → nodes_due below (due ++ n ∷ []) ≡ nodes_from below n ++ nodes_due below due
nodes_last below [] n = sym (append-nil (nodes_from below n))
nodes_last below (m ∷ due) n =
    ap (λ (xs : List OutNode). xs ++ nodes_from below m) (nodes_last below due n) ∙ append_assoc (nodes_from below n) (nodes_due below due) (nodes_from below m)

pub causes_last : (below : ℕ → SearchTree) (due : List ℕ) (n : ℕ) → causes_due below (due ++ n ∷ []) ≡ causes (below n) ++ causes_due below due
causes_last below [] n = sym (append-nil (causes (below n)))
causes_last below (m ∷ due) n =
    ap (λ (xs : List SplitCause). xs ++ causes (below m)) (causes_last below due n) ∙ append_assoc (causes (below n)) (causes_due below due) (causes (below m))

-- a node, and what comes to be due with it
pub nodes_visit : (p : ℕ → Prices) (c : ℕ → SplitCause) (k : Content) (below : ℕ → SearchTree) (due : List ℕ)
    → node_in p k ∷ nodes_due below (due ++ due_in k) ≡ preorder (outline (grown p c k below)) ++ nodes_due below due
nodes_visit p c (content.Open x) below due = ap (λ (d : List ℕ). node_in p (content.Open x) ∷ nodes_due below d) (append-nil due)
nodes_visit p c (content.Closed x) below due = ap (λ (d : List ℕ). node_in p (content.Closed x) ∷ nodes_due below d) (append-nil due)
nodes_visit p c (content.Split choice cause first) below due =
    let k : Content = content.Split choice cause first in
    ap (λ (d : List ℕ). node_in p k ∷ nodes_due below d) (sym (append_assoc due ((first + 1) ∷ []) (first ∷ [])))
    ∙ ap (λ (xs : List OutNode). node_in p k ∷ xs) (nodes_last below (due ++ (first + 1) ∷ []) first
    ∙ ap (λ (xs : List OutNode). nodes_from below first ++ xs) (nodes_last below due (first + 1))
    ∙ sym (append_assoc (nodes_from below first) (nodes_from below (first + 1)) (nodes_due below due)))

pub causes_visit : (p : ℕ → Prices) (c : ℕ → SplitCause) (k : Content) (below : ℕ → SearchTree) (due : List ℕ)
    → map c (cause_in k) ++ causes_due below (due ++ due_in k) ≡ causes (grown p c k below) ++ causes_due below due
causes_visit p c (content.Open x) below due = ap (λ (d : List ℕ). causes_due below d) (append-nil due)
causes_visit p c (content.Closed x) below due = ap (λ (d : List ℕ). causes_due below d) (append-nil due)
causes_visit p c (content.Split choice cause first) below due =
    ap (λ (d : List ℕ). c cause ∷ causes_due below d) (sym (append_assoc due ((first + 1) ∷ []) (first ∷ [])))
    ∙ ap (λ (xs : List SplitCause). c cause ∷ xs) (causes_last below (due ++ (first + 1) ∷ []) first
    ∙ ap (λ (xs : List SplitCause). causes (below first) ++ xs) (causes_last below due (first + 1))
    ∙ sym (append_assoc (causes (below first)) (causes (below (first + 1))) (causes_due below due)))

-- what was put and what is due make the whole, as before
pub nodes_kept : (p : ℕ → Prices) (c : ℕ → SplitCause) (k : Content) (below : ℕ → SearchTree) (all rest later : List ℕ) (n : ℕ) (nodes more : List OutNode)
    → all ≡ rest ++ n ∷ [] → below n ≡ grown p c k below → more ≡ nodes ++ node_in p k ∷ [] → later ≡ rest ++ due_in k
    → more ++ nodes_due below later ≡ nodes ++ nodes_due below all
nodes_kept p c k below all rest later n nodes more popped is put next =
    ap (λ (xs : List OutNode). xs ++ nodes_due below later) put ∙ append_assoc nodes (node_in p k ∷ []) (nodes_due below later)
    ∙ ap (λ (d : List ℕ). nodes ++ (node_in p k ∷ nodes_due below d)) next
    ∙ ap (λ (xs : List OutNode). nodes ++ xs) (nodes_visit p c k below rest
    ∙ ap (λ (t : SearchTree). preorder (outline t) ++ nodes_due below rest) (sym is) ∙ sym (nodes_last below rest n)
    ∙ ap (λ (d : List ℕ). nodes_due below d) (sym popped))

pub causes_kept : (p : ℕ → Prices) (c : ℕ → SplitCause) (k : Content) (below : ℕ → SearchTree) (all rest later : List ℕ) (n : ℕ) (nums more : List ℕ)
    → all ≡ rest ++ n ∷ [] → below n ≡ grown p c k below → more ≡ nums ++ cause_in k → later ≡ rest ++ due_in k
    → map c more ++ causes_due below later ≡ map c nums ++ causes_due below all
causes_kept p c k below all rest later n nums more popped is put next =
    ap (λ (xs : List ℕ). map c xs ++ causes_due below later) put
    ∙ ap (λ (xs : List SplitCause). xs ++ causes_due below later) (map-append c nums (cause_in k))
    ∙ append_assoc (map c nums) (map c (cause_in k)) (causes_due below later)
    ∙ ap (λ (d : List ℕ). map c nums ++ (map c (cause_in k) ++ causes_due below d)) next
    ∙ ap (λ (xs : List SplitCause). map c nums ++ xs) (causes_visit p c k below rest
    ∙ ap (λ (t : SearchTree). causes t ++ causes_due below rest) (sym is) ∙ sym (causes_last below rest n)
    ∙ ap (λ (d : List ℕ). causes_due below d) (sym popped))

-- the children are known
pub due_known : (nodes : List Node) (n : ℕ) (k : Content) (rest : List ℕ) → (node_of nodes n).content ≡ k
    → ((side : Side) (m : ℕ) → child_of (node_of nodes n).content side ≡ Some m → IsChild nodes n side m)
    → All (λ m. m < length nodes) rest → All (λ m. m < length nodes) (rest ++ due_in k)
due_known nodes n (content.Open x) rest is children all = subst (λ (d : List ℕ). All (λ m. m < length nodes) d) (sym (append-nil rest)) all
due_known nodes n (content.Closed x) rest is children all = subst (λ (d : List ℕ). All (λ m. m < length nodes) d) (sym (append-nil rest)) all
due_known nodes n (content.Split choice cause first) rest is children all =
    let low = children First first (ap (λ (k : Content). child_of k First) is) in
    let high = children Second (first + 1) (ap (λ (k : Content). child_of k Second) is) in
    All-append (λ m. m < length nodes) rest ((first + 1) ∷ first ∷ []) all
    (All-cons (λ m. m < length nodes) (first + 1) (first ∷ []) high.known (All-cons (λ m. m < length nodes) first [] low.known (All-nil (λ m. m < length nodes))))

-- how many nodes there are
pub nodes_count : (t : SearchTree) → length (preorder (outline t)) ≡ 2 * splits t + 1
nodes_count (LeafNode leaf) = refl
nodes_count (SplitNode split first second) =
    let a = nodes_count first in
    let b = nodes_count second in
    let e = length-append (preorder (outline first)) (preorder (outline second)) in
    omega arith

-- there is a node from each on
pub some_node : (t : SearchTree) → 1 ≤ length (preorder (outline t))
some_node t = let e = nodes_count t in omega arith

-- the last that is due
pub last_due : (P : ℕ → Type 0) (all rest : List ℕ) (n : ℕ) → all ≡ rest ++ n ∷ [] → All P all → All P rest × P n
last_due P all rest n popped h = All-pop P all rest (Some n) popped h

-- each node that is put makes fewer that are left
pub fewer_left : (below : ℕ → SearchTree) (all rest : List ℕ) (n : ℕ) (nodes more whole : List OutNode) (k : OutNode)
    → nodes ++ nodes_due below all ≡ whole → all ≡ rest ++ n ∷ [] → more ≡ nodes ++ k ∷ [] → length whole - length more < length whole - length nodes
fewer_left below all rest n nodes more whole k inv popped put =
    let a = ap length inv in
    let b = length-append nodes (nodes_due below all) in
    let c = ap (λ (d : List ℕ). length (nodes_due below d)) popped in
    let d = ap length (nodes_last below rest n) in
    let e = length-append (nodes_from below n) (nodes_due below rest) in
    let f = some_node (below n) in
    let g = ap length put in
    let h = length-append nodes (k ∷ []) in
    omega arith

-- the children of a split have numbers
pub has_children : (nodes : List Node) (n : ℕ) (k : Content) → (node_of nodes n).content ≡ k → length nodes ≤ 2 ^ 32
    → ((side : Side) (m : ℕ) → child_of (node_of nodes n).content side ≡ Some m → IsChild nodes n side m) → HasChildren k
has_children nodes n (content.Open x) is few children = tt
has_children nodes n (content.Closed x) is few children = tt
has_children nodes n (content.Split choice cause first) is few children =
    let high = children Second (first + 1) (ap (λ (k : Content). child_of k Second) is) in
    let known = high.known in
    omega arith

-- its cause is one of those that are known
pub cause_known : (prices most : ℕ) (k : Content) → HasNumber prices most k → All (λ c. c < most) (cause_in k)
cause_known prices most (content.Open x) h = All-nil (λ c. c < most)
cause_known prices most (content.Closed x) h = All-nil (λ c. c < most)
cause_known prices most (content.Split choice cause first) h = All-cons (λ c. c < most) cause [] h (All-nil (λ c. c < most))

-- once nothing is due, all is put
pub all_put : (below : ℕ → SearchTree) (due : List ℕ) (nodes whole : List OutNode) → due ≡ [] → nodes ++ nodes_due below due ≡ whole → nodes ≡ whole
all_put below due nodes whole none is = sym (append-nil nodes) ∙ ap (λ (d : List ℕ). nodes ++ nodes_due below d) (sym none) ∙ is

-- ---- a root that no step took

-- where the root is not to be bare
pub stays_whole : (p : ℕ → Prices) (c : ℕ → SplitCause) (k : Content) (below : ℕ → SearchTree) (t : SearchTree) (bare : Bool)
    → t ≡ grown p c k below → bare_number bare k ≡ None → outline_with bare t ≡ outline t
stays_whole p c (content.Open x) below t true is none = cc
stays_whole p c (content.Open x) below t false is none = ap (λ (u : SearchTree). outline_with false u) is ∙ ap outline (sym is)
stays_whole p c (content.Closed x) below t bare is none = ap (λ (u : SearchTree). outline_with bare u) is ∙ ap outline (sym is)
stays_whole p c (content.Split choice cause first) below t bare is none = ap (λ (u : SearchTree). outline_with bare u) is ∙ ap outline (sym is)

-- where it is
pub comes_bare : (p : ℕ → Prices) (c : ℕ → SplitCause) (k : Content) (below : ℕ → SearchTree) (t : SearchTree) (bare : Bool) (n : ℕ)
    → t ≡ grown p c k below → bare_number bare k ≡ Some n → outline_with bare t ≡ LeafNode (record { state = states.Bare; prices = p n })
comes_bare p c (content.Open x) below t true n is some =
    ap (λ (u : SearchTree). outline_with true u) is ∙ ap (λ (m : ℕ). LeafNode (record { state = states.Bare; prices = p m })) (let same : x ≡ n = cc in same)
comes_bare p c (content.Open x) below t false n is some = cc
comes_bare p c (content.Closed x) below t bare n is some = cc
comes_bare p c (content.Split choice cause first) below t bare n is some = cc

-- its prices are known
pub bare_known : (prices most : ℕ) (k : Content) (bare : Bool) (n : ℕ) → HasNumber prices most k → bare_number bare k ≡ Some n → n < prices
bare_known prices most (content.Open x) true n h some = subst (λ m. m < prices) (let same : x ≡ n = cc in same) h
bare_known prices most (content.Open x) false n h some = cc
bare_known prices most (content.Closed x) bare n h some = cc
bare_known prices most (content.Split choice cause first) bare n h some = cc
