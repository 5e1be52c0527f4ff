-- ways that lead from a node to another
use Rattle.std.proofs.Common.{◌≡◌, ◌≢◌, ◌≤◌, ◌<◌, ◌++◌, ◌∙◌, ℕ, zero, suc, List, [], ◌∷◌, Some, length, ap, sym, subst, arith, append_assoc}
use Rattle.std.proofs.lemmas.List.{append-nil, append_cancel_left}
use Rattle.crew_terms.specs.declared.Side.{Side}
use Rattle.search_tree.specs.declared.nodes.Node.{Node}
use Rattle.search_tree.specs.Numbered.{AreNumbered, node_of, child_of, way_up, way_of}
use Rattle.search_tree.specs.Ways.{Leads, Here, Along}
use Rattle.search_tree.proofs.Levels.{root_way, child_way}

-- a way leads on, to numbers that are no less
pub leads_behind : (nodes : List Node) → AreNumbered nodes → (n j : ℕ) (way : List Side) → n < length nodes → Leads nodes n way j → n ≤ j
leads_behind nodes a n j [] l (Here m) = omega arith
leads_behind nodes a n j (s ∷ w) l (Along n' m j' side way child rest) =
    let k = a.children n m side l child in
    let b = k.behind in
    let d = leads_behind nodes a m j way k.known rest in
    omega arith

-- one more turn
pub leads_on : (nodes : List Node) (n i m : ℕ) (way : List Side) (side : Side) → Leads nodes n way i
    → child_of (node_of nodes i).content side ≡ Some m → Leads nodes n (way ++ side ∷ []) m
leads_on nodes n i m [] side (Here n') child = Along i m m side [] child (Here m)
leads_on nodes n i m (s ∷ w) side (Along n' h i' turn way step rest) child =
    Along n h m turn (way ++ side ∷ []) step (leads_on nodes h i m way side rest child)

-- where a way leads is at its end
pub leads_way : (nodes : List Node) → AreNumbered nodes → (n j : ℕ) (way : List Side) → n < length nodes → Leads nodes n way j
    → way_of nodes j ≡ way_of nodes n ++ way
leads_way nodes a n j [] l (Here n') = sym (append-nil (way_of nodes n))
leads_way nodes a n j (s ∷ w) l (Along n' m j' side way child rest) =
    let k = a.children n m side l child in
    leads_way nodes a m j way k.known rest
    ∙ ap (λ (x : List Side). x ++ way) (child_way nodes a n m side l child)
    ∙ append_assoc (way_of nodes n) (side ∷ []) way

-- each node is at the end of its way
pub leads_to : (nodes : List Node) → AreNumbered nodes → (f j : ℕ) → j < length nodes → j ≤ f → Leads nodes zero (way_up f nodes j) j
unfolding way_up
leads_to nodes a f zero l e = subst (λ (w : List Side). Leads nodes zero w zero) (sym (root_way nodes f)) (Here zero)
leads_to nodes a zero (suc j) l e = absurd (omega arith)
leads_to nodes a (suc f) (suc j) l e =
    let k = a.parents (suc j) (omega arith) l in
    let b = k.behind in
    leads_on nodes zero (node_of nodes (suc j)).above (suc j) (way_up f nodes (node_of nodes (suc j)).above) (node_of nodes (suc j)).side
    (leads_to nodes a f (node_of nodes (suc j)).above (omega arith) (omega arith)) k.child

-- ways on the two sides of a split lead to different nodes
pub sides_differ : (nodes : List Node) → AreNumbered nodes → (n m x j : ℕ) (side other : Side) (way off : List Side) → n < length nodes
    → other ≢ side → child_of (node_of nodes n).content side ≡ Some m → child_of (node_of nodes n).content other ≡ Some x
    → Leads nodes m way j → Leads nodes x off j → ⊥
sides_differ nodes a n m x j side other way off l ne one two first second =
    let e : way_of nodes n ++ (other ∷ off) ≡ way_of nodes n ++ (side ∷ way) =
    sym (leads_way nodes a n j (other ∷ off) l (Along n x j other off two second))
    ∙ leads_way nodes a n j (side ∷ way) l (Along n m j side way one first) in
    let d : other ∷ off ≡ side ∷ way = append_cancel_left (way_of nodes n) (other ∷ off) (side ∷ way) e in
    let same : other ≡ side = cc d in
    ne same
