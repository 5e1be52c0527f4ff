-- the open leaves by age, where one is due, closed or split
use Rattle.std.proofs.Common.{◌≡◌, ◌≢◌, ◌<◌, ◌+◌, ◌==◌, ◌++◌, ◌∷◌, [], ◌∙◌, ◌⊎◌, inl, inr, ℕ, ℤ, suc, get_or, List, None, Some, length, not, refl, ap, sym, subst, arith}
use Rattle.std.specs.Prelude.{◌≤ℤ◌, ◌<ℤ◌, All, AllPairs, Contains}
use Rattle.std.proofs.lemmas.Bool.{cases_eq, eq-eqb, ne_eqb}
use Rattle.std.proofs.lemmas.List.{get_or_append_left, get_or-append-add, length-append, map-append}
use Rattle.std.proofs.lemmas.List.Elements.{All-map, filter-append}
use Rattle.crew_terms.specs.declared.Choice.{Choice}
use Rattle.crew_terms.specs.declared.Side.{Side}
use Rattle.crew_terms.specs.declared.Side.TheVariants.{First, Second}
use Rattle.node_queue.specs.declared.Waiting.{Waiting}
use Rattle.node_queue.specs.Waits.{IsLeast, Waits, found, keys_of, without}
use Rattle.search_terms.specs.BestFirst.{AgedLeaf, IsDue}
use Rattle.search_tree.specs.declared.nodes.Node.{Node}
use Rattle.search_tree.specs.Numbered.{split_at, way_of}
use Rattle.search_tree.specs.Aged.{leaf_of, leaves_in, leaves_of, leaves_without}
use Rattle.search_tree.specs.Keyed.{IsKeyed, IsTaken, IsTurned, IsWaiting, Keyed}
use Rattle.search_tree.proofs.Found.{found_here, found_key, found_on, least_is, none_found, none_here, none_on}

-- ---- a key that stands once

-- it stands neither before that place nor behind
apart_in : (xs ys : List ℕ) (k : ℕ) → AllPairs (λ a b. a ≢ b) (xs ++ k ∷ ys) → (Contains xs k → ⊥) × (Contains ys k → ⊥)
apart_in xs ys k apart = (before, behind)
  where
    long : length (xs ++ k ∷ ys) ≡ length xs + suc (length ys)
    long = length-append xs (k ∷ ys)

    here : get_or (xs ++ k ∷ ys) (length xs + 0) k ≡ k
    here = get_or-append-add xs (k ∷ ys) 0 k

    before : Contains xs k → ⊥
    before x =
        let l = x.1 in
        let e = long in
        apart x.0 (length xs + 0) k (omega arith) (omega arith) (get_or_append_left xs (k ∷ ys) k x.0 l ∙ x.2 ∙ sym here)

    behind : Contains ys k → ⊥
    behind x =
        let l = x.1 in
        let e = long in
        let there : get_or (xs ++ k ∷ ys) (length xs + suc x.0) k ≡ k = get_or-append-add xs (k ∷ ys) (suc x.0) k ∙ x.2 in
        apart (length xs + 0) (length xs + suc x.0) k (omega arith) (omega arith) (here ∙ sym there)

without_none : (q : Waits) (k : ℕ) → found q k ≡ None → without q k ≡ q
without_none [] k none = refl
without_none (e ∷ q) k none =
    rw (ne_eqb e.0 k (none_here e q k none)) (ap (λ (r : Waits). e ∷ r) (without_none q k (none_on e q k none)))

-- so the others are those before it and those behind
without_one : (older younger : Waits) (k : ℕ) (w : Waiting) → found older k ≡ None → found younger k ≡ None
    → without (older ++ (k, w) ∷ younger) k ≡ older ++ younger
without_one older younger k w before behind =
    let rest : without ((k, w) ∷ younger) k ≡ younger = rw (eq-eqb k k refl) (without_none younger k behind) in
    filter-append (λ (e : ℕ × Waiting). not (e.0 == k)) older ((k, w) ∷ younger)
    ∙ ap (λ (r : Waits). r ++ without ((k, w) ∷ younger) k) (without_none older k before)
    ∙ ap (λ (r : Waits). older ++ r) rest

without_least : (q : Waits) (k : ℕ) (least : IsLeast q k) → AllPairs (λ a b. a ≢ b) (keys_of q) → without q k ≡ least.older ++ least.younger
without_least q k least differ =
    let all : keys_of q ≡ keys_of least.older ++ k ∷ keys_of least.younger =
    ap keys_of least.stands ∙ map-append (λ (e : ℕ × Waiting). e.0) least.older ((k, least.waiting) ∷ least.younger) in
    let apart = apart_in (keys_of least.older) (keys_of least.younger) k (subst (λ (ks : List ℕ). AllPairs (λ a b. a ≢ b) ks) all differ) in
    ap (λ (x : Waits). without x k) least.stands
    ∙ without_one least.older least.younger k least.waiting (none_found least.older k apart.0) (none_found least.younger k apart.1)

-- ---- ways that stay

-- all items are numbers of nodes
abbrev AreNodes : List Node → Waits → Type 0
AreNodes nodes [] = Unit {0}
AreNodes nodes (e ∷ q) = (e.1.item < length nodes) × AreNodes nodes q

are_nodes : (nodes : List Node) (q : Waits) → AllPairs (λ a b. a ≢ b) (keys_of q)
    → ((key : ℕ) (w : Waiting) → found q key ≡ Some w → w.item < length nodes) → AreNodes nodes q
are_nodes nodes [] differ known = tt
are_nodes nodes (e ∷ q) differ known = (
  known e.0 e.1 (found_here e q e.0 refl),
  are_nodes nodes q (λ i j d l m. differ (suc i) (suc j) d (omega arith) (omega arith))
      (λ key w is. known key w (found_on e q key (λ same. (apart_in [] (keys_of q) e.0 differ).1
      (subst (λ k. Contains (keys_of q) k) (sym same) (found_key q key w is))) ∙ is)),
)

nodes_without : (nodes : List Node) (q : Waits) (k : ℕ) → AreNodes nodes q → AreNodes nodes (without q k)
nodes_without nodes [] k h = tt
nodes_without nodes (e ∷ q) k h = by (cases_eq e.0 k) (nodes_without nodes q k h.1)
  where
    by : (e.0 ≡ k) ⊎ (e.0 ≢ k) → AreNodes nodes (without q k) → AreNodes nodes (without (e ∷ q) k)
    by (inl is) rest = rw (eq-eqb e.0 k is) rest
    by (inr ne) rest = rw (ne_eqb e.0 k ne) (h.0, rest)

same_leaves : (nodes after : List Node) → ((m : ℕ) → m < length nodes → way_of after m ≡ way_of nodes m)
    → (q : Waits) → AreNodes nodes q → leaves_in after q ≡ leaves_in nodes q
same_leaves nodes after ways [] h = refl
same_leaves nodes after ways (e ∷ q) h =
    ap (λ (way : List Side). record { way = way; bound = e.1.bound } ∷ leaves_in after q) (ways e.1.item h.0)
    ∙ ap (λ (leaves : List AgedLeaf). leaf_of nodes e ∷ leaves) (same_leaves nodes after ways q h.1)

-- those that wait on
stay : (old : Keyed) (after : List Node) (key : ℕ) → IsKeyed old → ((m : ℕ) → m < length old.nodes → way_of after m ≡ way_of old.nodes m)
    → leaves_in after (without old.waits key) ≡ leaves_without old key
stay old after key keyed ways =
    let all = are_nodes old.nodes old.waits keyed.differ (λ k w is. (keyed.leaves k w.item w.bound is).0) in
    same_leaves old.nodes after ways (without old.waits key) (nodes_without old.nodes old.waits key all)

pub taken : (old new : Keyed) (key n prices : ℕ) → IsKeyed old → IsTaken old new key n prices → leaves_of new ≡ leaves_without old key
taken old new key n prices keyed is = ap (leaves_in new.nodes) is.waits ∙ stay old new.nodes key keyed is.ways

pub turned : (old new : Keyed) (key n cause prices : ℕ) (choice : Choice) (bounds : ℤ × ℤ) → IsKeyed old
    → IsTurned old new key n choice cause prices bounds
    → way_of (split_at old.nodes n choice cause prices) (length old.nodes) ≡ way_of old.nodes n ++ First ∷ []
    → way_of (split_at old.nodes n choice cause prices) (length old.nodes + 1) ≡ way_of old.nodes n ++ Second ∷ []
    → leaves_of new ≡ leaves_without old key ++ record { way = way_of old.nodes n ++ First ∷ []; bound = bounds.0 }
    ∷ record { way = way_of old.nodes n ++ Second ∷ []; bound = bounds.1 } ∷ []
turned old new key n cause prices choice bounds keyed is first second =
    let low : ℕ × Waiting = (is.low, record { bound = bounds.0; item = length old.nodes }) in
    let high : ℕ × Waiting = (is.high, record { bound = bounds.1; item = length old.nodes + 1 }) in
    let one = ap (λ (nodes : List Node). way_of nodes (length old.nodes)) is.nodes ∙ first in
    let two = ap (λ (nodes : List Node). way_of nodes (length old.nodes + 1)) is.nodes ∙ second in
    ap (leaves_in new.nodes) is.waits
    ∙ map-append (leaf_of new.nodes) (without old.waits key) (low ∷ high ∷ [])
    ∙ ap (λ (leaves : List AgedLeaf). leaves ++ leaf_of new.nodes low ∷ leaf_of new.nodes high ∷ []) (stay old new.nodes key keyed is.ways)
    ∙ ap (λ (way : List Side). leaves_without old key ++ record { way = way; bound = bounds.0 } ∷ leaf_of new.nodes high ∷ []) one
    ∙ ap (λ (way : List Side). leaves_without old key ++ record { way = way_of old.nodes n ++ First ∷ []; bound = bounds.0 }
    ∷ record { way = way; bound = bounds.1 } ∷ []) two

-- ---- the one that is due

pub due : (k : Keyed) (key n : ℕ) (bound : ℤ) → IsKeyed k → IsLeast k.waits key → IsWaiting k key n bound
    → IsDue (leaves_of k) (record { way = way_of k.nodes n; bound = bound }) (leaves_without k key)
due k key n bound keyed least waiting =
    let w : Waiting = record { bound = bound; item = n } in
    let x : Some least.waiting ≡ Some w = sym (least_is k.waits key least keyed.differ) ∙ waiting in
    let same : least.waiting ≡ w = cc x in
    let older = least.older in
    let younger = least.younger in
    record {
      older = leaves_in k.nodes older;
      younger = leaves_in k.nodes younger;
      stands = ap (leaves_in k.nodes) least.stands
          ∙ map-append (leaf_of k.nodes) older ((key, least.waiting) ∷ younger)
          ∙ ap (λ (v : Waiting). leaves_in k.nodes older ++ leaf_of k.nodes (key, v) ∷ leaves_in k.nodes younger) same;
      apart = ap (leaves_in k.nodes) (without_least k.waits key least keyed.differ)
          ∙ map-append (leaf_of k.nodes) older younger;
      below_older = All-map (λ (o : AgedLeaf). bound <ℤ o.bound) (leaf_of k.nodes) older
          (subst (λ (v : Waiting). All (λ (e : ℕ × Waiting). v.bound <ℤ e.1.bound) older) same least.below_older);
      not_above_younger = All-map (λ (o : AgedLeaf). bound ≤ℤ o.bound) (leaf_of k.nodes) younger
          (subst (λ (v : Waiting). All (λ (e : ℕ × Waiting). v.bound ≤ℤ e.1.bound) younger) same least.not_above_younger);
    }
