-- open leaves are those at the end of their ways
use Rattle.std.proofs.Common.{◌≡◌, ◌≤◌, ◌<◌, ◌+◌, ◌++◌, ◌∙◌, ℕ, zero, suc, List, [], ◌∷◌, None, Some, length, refl, ap, sym, subst, arith, append_assoc}
use Rattle.std.proofs.lemmas.List.{append-nil}
use Rattle.crew_terms.specs.Leaf.{Prices}
use Rattle.crew_terms.specs.Limits.{Limits}
use Rattle.crew_terms.specs.Branches.{LeafNode, SplitNode}
use Rattle.crew_terms.specs.Tree.{CanSplit, child}
use Rattle.crew_terms.specs.declared.Side.{Side}
use Rattle.crew_terms.specs.declared.Side.TheVariants.{First, Second}
use Rattle.search_terms.specs.SearchTree.{SearchTree, SplitCause}
use Rattle.search_terms.specs.Ways.{IsOpenAt, limits_at, prices_at}
use Rattle.search_tree.specs.declared.nodes.Content.{Content}
use Rattle.search_tree.specs.declared.nodes.Content.TheVariants as content
use Rattle.search_tree.specs.declared.nodes.Node.{Node}
use Rattle.node_limits.specs.declared.walks.Branch.{Branch}
use Rattle.search_tree.specs.Numbered.{AreNumbered, IsOpenNode, node_of, child_of, grown, tree_at, tree_of, way_of, way_up}
use Rattle.node_limits.specs.Walks.{CanBranch, limits_after}
use Rattle.search_tree.specs.Ways.{Leads, Here, Along, AreSplits, choice_in, turn_to, turns_up, turns_of}
use Rattle.search_tree.proofs.Leading.{leads_to, leads_way}

-- ---- one turn

open_turn : (p : ℕ → Prices) (c : ℕ → SplitCause) (k : Content) (side : Side) (m : ℕ) (way : List Side) (below : ℕ → SearchTree)
    → child_of k side ≡ Some m → IsOpenAt (below m) way → IsOpenAt (grown p c k below) (side ∷ way)
open_turn p c (content.Open x) side m way below is h = let e : None ≡ Some m = is in cc
open_turn p c (content.Closed x) side m way below is h = let e : None ≡ Some m = is in cc
open_turn p c (content.Split choice cause first) First m way below is h =
    let e : Some first ≡ Some m = is in let same : first ≡ m = cc e in subst (λ x. IsOpenAt (below x) way) (sym same) h
open_turn p c (content.Split choice cause first) Second m way below is h =
    let e : Some (first + 1) ≡ Some m = is in let same : first + 1 ≡ m = cc e in subst (λ x. IsOpenAt (below x) way) (sym same) h

prices_turn : (p : ℕ → Prices) (c : ℕ → SplitCause) (k : Content) (side : Side) (m : ℕ) (way : List Side) (below : ℕ → SearchTree)
    → child_of k side ≡ Some m → prices_at (grown p c k below) (side ∷ way) ≡ prices_at (below m) way
prices_turn p c (content.Open x) side m way below is = let e : None ≡ Some m = is in cc
prices_turn p c (content.Closed x) side m way below is = let e : None ≡ Some m = is in cc
prices_turn p c (content.Split choice cause first) First m way below is =
    let e : Some first ≡ Some m = is in let same : first ≡ m = cc e in ap (λ x. prices_at (below x) way) same
prices_turn p c (content.Split choice cause first) Second m way below is =
    let e : Some (first + 1) ≡ Some m = is in let same : first + 1 ≡ m = cc e in ap (λ x. prices_at (below x) way) same

limits_turn : (p : ℕ → Prices) (c : ℕ → SplitCause) (l : Limits) (k : Content) (side : Side) (m : ℕ) (way : List Side) (below : ℕ → SearchTree)
    → child_of k side ≡ Some m → limits_at l (grown p c k below) (side ∷ way) ≡ limits_at (child l (choice_in k) side) (below m) way
limits_turn p c l (content.Open x) side m way below is = let e : None ≡ Some m = is in cc
limits_turn p c l (content.Closed x) side m way below is = let e : None ≡ Some m = is in cc
limits_turn p c l (content.Split choice cause first) First m way below is =
    let e : Some first ≡ Some m = is in let same : first ≡ m = cc e in ap (λ x. limits_at (child l choice First) (below x) way) same
limits_turn p c l (content.Split choice cause first) Second m way below is =
    let e : Some (first + 1) ≡ Some m = is in let same : first + 1 ≡ m = cc e in ap (λ x. limits_at (child l choice Second) (below x) way) same

-- ---- along a way

-- the way to an open node leads to an open leaf
open_along : (p : ℕ → Prices) (c : ℕ → SplitCause) (nodes : List Node) → AreNumbered nodes → (f n j : ℕ) (way : List Side) → n < length nodes
    → length nodes ≤ n + f → Leads nodes n way j → (prices : ℕ) → (node_of nodes j).content ≡ content.Open prices
    → IsOpenAt (tree_at p c f nodes n) way × (prices_at (tree_at p c f nodes n) way ≡ p prices)
unfolding tree_at
open_along p c nodes a zero n j way l h leads prices is = absurd (omega arith)
open_along p c nodes a (suc f) n j [] l h (Here n') prices is =
    subst (λ (k : Content). IsOpenAt (grown p c k (tree_at p c f nodes)) [] × (prices_at (grown p c k (tree_at p c f nodes)) [] ≡ p prices)) (sym is) (tt, refl)
open_along p c nodes a (suc f) n j (s ∷ w) l h (Along n' m j' side way step rest) prices is =
    let k = a.children n m side l step in
    let b = k.behind in
    let r = open_along p c nodes a f m j way k.known (omega arith) rest prices is in (
      open_turn p c (node_of nodes n).content side m way (tree_at p c f nodes) step r.0,
      prices_turn p c (node_of nodes n).content side m way (tree_at p c f nodes) step ∙ r.1,
    )

-- a way to an open leaf leads to a node that is one
pub open_only : (p : ℕ → Prices) (c : ℕ → SplitCause) (nodes : List Node) → AreNumbered nodes → (f n : ℕ) (way : List Side) → n < length nodes
    → length nodes ≤ n + f → IsOpenAt (tree_at p c f nodes n) way → (j : ℕ) × Leads nodes n way j × IsOpenNode nodes j
unfolding tree_at
open_only p c nodes a zero n way l h o = absurd (omega arith)
open_only p c nodes a (suc f) n way l h o =
    at (λ m w known longer o. open_only p c nodes a f m w known longer o) (node_of nodes n).content refl way o
  where
    at : ((m : ℕ) (w : List Side) → m < length nodes → length nodes ≤ m + f → IsOpenAt (tree_at p c f nodes m) w
        → (j : ℕ) × Leads nodes m w j × IsOpenNode nodes j)
        → (k : Content) → (node_of nodes n).content ≡ k → (w : List Side) → IsOpenAt (grown p c k (tree_at p c f nodes)) w
        → (j : ℕ) × Leads nodes n w j × IsOpenNode nodes j
    at below (content.Open x) e [] o = (n, Here n, (l, x, e))
    at below (content.Open x) e (s ∷ w) o = absurd o
    at below (content.Closed x) e w o = absurd o
    at below (content.Split choice cause first) e [] o = absurd o
    at below (content.Split choice cause first) e (First ∷ w) o =
        let step : child_of (node_of nodes n).content First ≡ Some first = ap (λ (k : Content). child_of k First) e in
        let k = a.children n first First l step in
        let b = k.behind in
        let r = below first w k.known (omega arith) o in
        (r.0, Along n first r.0 First w step r.1, r.2)
    at below (content.Split choice cause first) e (Second ∷ w) o =
        let step : child_of (node_of nodes n).content Second ≡ Some (first + 1) = ap (λ (k : Content). child_of k Second) e in
        let k = a.children n (first + 1) Second l step in
        let b = k.behind in
        let r = below (first + 1) w k.known (omega arith) o in
        (r.0, Along n (first + 1) r.0 Second w step r.1, r.2)

-- a way leads to one node
pub leads_one : (nodes : List Node) (n i j : ℕ) (way : List Side) → Leads nodes n way i → Leads nodes n way j → i ≡ j
leads_one nodes n i j [] (Here n') (Here n'') = refl
leads_one nodes n i j (s ∷ w) (Along n' m i' side way one rest) (Along n'' h j' side' way' two more) =
    let e : Some m ≡ Some h = sym one ∙ two in
    let same : h ≡ m = cc e in
    leads_one nodes m i j way rest (subst (λ x. Leads nodes x way j) same more)

-- ---- turns

root_turns : (nodes : List Node) (f : ℕ) → turns_up f nodes zero ≡ []
unfolding turns_up
root_turns nodes zero = refl
root_turns nodes (suc f) = refl

pub same_turns : (nodes : List Node) → AreNumbered nodes → (f g n : ℕ) → n < length nodes → n ≤ f → n ≤ g
    → turns_up f nodes n ≡ turns_up g nodes n
unfolding turns_up
same_turns nodes a f g zero l e h = root_turns nodes f ∙ sym (root_turns nodes g)
same_turns nodes a zero g (suc n) l e h = absurd (omega arith)
same_turns nodes a (suc f) zero (suc n) l e h = absurd (omega arith)
same_turns nodes a (suc f) (suc g) (suc n) l e h =
    let k = a.parents (suc n) (omega arith) l in
    let b = k.behind in
    ap (λ (w : List Branch). w ++ turn_to nodes (suc n) ∷ [])
    (same_turns nodes a f g (node_of nodes (suc n)).above (omega arith) (omega arith) (omega arith))

-- the turns to a node go on from its split
pub last_turn : (nodes : List Node) → AreNumbered nodes → (n : ℕ) → 0 < n → n < length nodes
    → turns_of nodes n ≡ turns_of nodes (node_of nodes n).above ++ turn_to nodes n ∷ []
unfolding turns_up
last_turn nodes a zero some l = absurd (omega arith)
last_turn nodes a (suc n) some l =
    let k = a.parents (suc n) some l in
    let b = k.behind in
    ap (λ (w : List Branch). w ++ turn_to nodes (suc n) ∷ [])
    (same_turns nodes a n (node_of nodes (suc n)).above (node_of nodes (suc n)).above (omega arith) (omega arith) (omega arith))

child_turns : (nodes : List Node) → AreNumbered nodes → (n m : ℕ) (side : Side) → n < length nodes
    → child_of (node_of nodes n).content side ≡ Some m
    → turns_of nodes m ≡ turns_of nodes n ++ record { choice = choice_in (node_of nodes n).content; side = side } ∷ []
child_turns nodes a n m side l is =
    let k = a.children n m side l is in
    let b = k.behind in
    last_turn nodes a m (omega arith) k.known
    ∙ ap (λ (x : ℕ). turns_of nodes x ++ record { choice = choice_in (node_of nodes x).content; side = (node_of nodes m).side } ∷ []) k.above
    ∙ ap (λ (s : Side). turns_of nodes n ++ record { choice = choice_in (node_of nodes n).content; side = s } ∷ []) k.turned

-- the limits at the end of a way are those after its turns
limits_along : (p : ℕ → Prices) (c : ℕ → SplitCause) (nodes : List Node) → AreNumbered nodes → (f n j : ℕ) (way : List Side) (limits : Limits)
    → n < length nodes → length nodes ≤ n + f → Leads nodes n way j
    → (turns : List Branch) × (turns_of nodes j ≡ turns_of nodes n ++ turns) × (limits_at limits (tree_at p c f nodes n) way ≡ limits_after limits turns)
unfolding tree_at
limits_along p c nodes a zero n j way limits l h leads = absurd (omega arith)
limits_along p c nodes a (suc f) n j [] limits l h (Here n') =
    ([], sym (append-nil (turns_of nodes n)), here (grown p c (node_of nodes n).content (tree_at p c f nodes)))
  where
    here : (t : SearchTree) → limits_at limits t [] ≡ limits
    here (LeafNode leaf) = refl
    here (SplitNode split first second) = refl
limits_along p c nodes a (suc f) n j (s ∷ w) limits l h (Along n' m j' side way step rest) =
    let k = a.children n m side l step in
    let b = k.behind in
    let turn : Branch = record { choice = choice_in (node_of nodes n).content; side = side } in
    let r = limits_along p c nodes a f m j way (child limits turn.choice side) k.known (omega arith) rest in (
      turn ∷ r.0,
      r.1 ∙ ap (λ (x : List Branch). x ++ r.0) (child_turns nodes a n m side l step) ∙ append_assoc (turns_of nodes n) (turn ∷ []) r.0,
      limits_turn p c limits (node_of nodes n).content side m way (tree_at p c f nodes) step ∙ r.2,
    )

-- ---- from the root

pub root_leads : (nodes : List Node) → AreNumbered nodes → (n : ℕ) → n < length nodes → Leads nodes zero (way_of nodes n) n
root_leads nodes a n l = leads_to nodes a n n l (omega arith)

pub open_nodes : (p : ℕ → Prices) (c : ℕ → SplitCause) (nodes : List Node) (n prices : ℕ) → AreNumbered nodes → n < length nodes
    → (node_of nodes n).content ≡ content.Open prices
    → IsOpenAt (tree_of p c nodes) (way_of nodes n) × (prices_at (tree_of p c nodes) (way_of nodes n) ≡ p prices)
open_nodes p c nodes n prices a l is =
    open_along p c nodes a (length nodes) zero n (way_of nodes n) (omega arith) (omega arith) (root_leads nodes a n l) prices is

pub open_ways : (p : ℕ → Prices) (c : ℕ → SplitCause) (nodes : List Node) (way : List Side) → AreNumbered nodes
    → IsOpenAt (tree_of p c nodes) way → (n : ℕ) × IsOpenNode nodes n × (way_of nodes n ≡ way)
unfolding way_up
open_ways p c nodes way a o =
    let some = a.some in
    let r = open_only p c nodes a (length nodes) zero way (omega arith) (omega arith) o in
    (r.0, r.2, leads_way nodes a zero r.0 way (omega arith) r.1)

pub one_way : (nodes : List Node) (n m : ℕ) → AreNumbered nodes → n < length nodes → m < length nodes → way_of nodes n ≡ way_of nodes m → n ≡ m
one_way nodes n m a l h e =
    leads_one nodes zero n m (way_of nodes m) (subst (λ (w : List Side). Leads nodes zero w n) e (root_leads nodes a n l)) (root_leads nodes a m h)

pub limits_of_nodes : (p : ℕ → Prices) (c : ℕ → SplitCause) (nodes : List Node) (n : ℕ) (limits : Limits) → AreNumbered nodes → n < length nodes
    → limits_at limits (tree_of p c nodes) (way_of nodes n) ≡ limits_after limits (turns_of nodes n)
unfolding turns_up
limits_of_nodes p c nodes n limits a l =
    let some = a.some in
    let r = limits_along p c nodes a (length nodes) zero n (way_of nodes n) limits (omega arith) (omega arith) (root_leads nodes a n l) in
    r.2 ∙ ap (λ (x : List Branch). limits_after limits x) (sym r.1)

-- ---- turns that can be made

can_turn : (p : ℕ → Prices) (c : ℕ → SplitCause) (l : Limits) (k : Content) (side : Side) (m : ℕ) (below : ℕ → SearchTree)
    → child_of k side ≡ Some m → AreSplits l (grown p c k below)
    → CanSplit l (choice_in k) × AreSplits (child l (choice_in k) side) (below m)
can_turn p c l (content.Open x) side m below is can = let e : None ≡ Some m = is in cc
can_turn p c l (content.Closed x) side m below is can = let e : None ≡ Some m = is in cc
can_turn p c l (content.Split choice cause first) First m below is can =
    let e : Some first ≡ Some m = is in let same : first ≡ m = cc e in
    (can.0, subst (λ x. AreSplits (child l choice First) (below x)) same can.1)
can_turn p c l (content.Split choice cause first) Second m below is can =
    let e : Some (first + 1) ≡ Some m = is in let same : first + 1 ≡ m = cc e in
    (can.0, subst (λ x. AreSplits (child l choice Second) (below x)) same can.2)

can_along : (p : ℕ → Prices) (c : ℕ → SplitCause) (nodes : List Node) → AreNumbered nodes → (f n j : ℕ) (way : List Side) (limits : Limits)
    → n < length nodes → length nodes ≤ n + f → Leads nodes n way j → AreSplits limits (tree_at p c f nodes n)
    → (turns : List Branch) × (turns_of nodes j ≡ turns_of nodes n ++ turns) × CanBranch limits turns
unfolding tree_at
can_along p c nodes a zero n j way limits l h leads can = absurd (omega arith)
can_along p c nodes a (suc f) n j [] limits l h (Here n') can = ([], sym (append-nil (turns_of nodes n)), tt)
can_along p c nodes a (suc f) n j (s ∷ w) limits l h (Along n' m j' side way step rest) can =
    let k = a.children n m side l step in
    let b = k.behind in
    let turn : Branch = record { choice = choice_in (node_of nodes n).content; side = side } in
    let d = can_turn p c limits (node_of nodes n).content side m (tree_at p c f nodes) step can in
    let r = can_along p c nodes a f m j way (child limits turn.choice side) k.known (omega arith) rest d.1 in (
      turn ∷ r.0,
      r.1 ∙ ap (λ (x : List Branch). x ++ r.0) (child_turns nodes a n m side l step) ∙ append_assoc (turns_of nodes n) (turn ∷ []) r.0,
      (d.0, r.2),
    )

pub can_turns : (p : ℕ → Prices) (c : ℕ → SplitCause) (nodes : List Node) (n : ℕ) (limits : Limits) → AreNumbered nodes → n < length nodes
    → AreSplits limits (tree_of p c nodes) → CanBranch limits (turns_of nodes n)
unfolding turns_up
can_turns p c nodes n limits a l can =
    let some = a.some in
    let r = can_along p c nodes a (length nodes) zero n (way_of nodes n) limits (omega arith) (omega arith) (root_leads nodes a n l) can in
    subst (λ (x : List Branch). CanBranch limits x) (sym r.1) r.2
