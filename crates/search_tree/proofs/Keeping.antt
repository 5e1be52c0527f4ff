-- what waits after a leaf was closed or split
use Rattle.std.proofs.Common.{◌≡◌, ◌≢◌, ◌≤◌, ◌<◌, ◌+◌, ◌*◌, ◌++◌, ◌∙◌, ◌⊎◌, inl, inr, ℕ, ℤ, List, [], ◌∷◌, None, Some, length, ap, sym, subst, arith, append_assoc, get_or-set_other, get_or-set_same}
use Rattle.std.specs.Prelude.{AllPairs}
use Rattle.std.proofs.lemmas.Bool.{cases_eq, cases_lt}
use Rattle.std.proofs.lemmas.List.{length-set}
use Rattle.crew_terms.specs.declared.Choice.{Choice}
use Rattle.crew_terms.specs.declared.TheConstants.{MOST_NODES}
use Rattle.node_queue.specs.declared.Waiting.{Waiting}
use Rattle.node_queue.specs.Waits.{Waits, found, keys_of, without}
use Rattle.search_tree.specs.declared.nodes.Content.TheVariants as content
use Rattle.search_tree.specs.declared.nodes.Node.{Node}
use Rattle.search_tree.specs.Numbered.{AreNumbered, HasSplit, IsOpenNode, node_of, root_node, with_content}
use Rattle.search_tree.specs.Keyed.{CameFrom, Before, IsFirst, IsSecond, IsKeyed, IsWaiting, Keyed}
use Rattle.search_tree.proofs.Found.{found_gone, found_rest, found_last, found_before, without_put}

-- two entries under one key are one
pub same_item : (k : Keyed) (key n m : ℕ) (b c : ℤ) → IsWaiting k key n b → IsWaiting k key m c → n ≡ m
same_item k key n m b c one two =
    let first : Waiting = record { bound = b; item = n } in
    let second : Waiting = record { bound = c; item = m } in
    let e : Some first ≡ Some second = sym one ∙ two in
    let f : first ≡ second = cc e in
    ap (λ (w : Waiting). w.item) f

-- ---- a leaf is taken

rest_before : (old new : Keyed) (key : ℕ) → new.waits ≡ without old.waits key → (other m : ℕ) (b : ℤ) → IsWaiting new other m b
    → (other ≢ key) × IsWaiting old other m b
rest_before old new key is other m b w = by (cases_eq other key)
  where
    by : (other ≡ key) ⊎ (other ≢ key) → (other ≢ key) × IsWaiting old other m b
    by (inl e) =
        let one : Waiting = record { bound = b; item = m } in
        let x : None ≡ Some one =
        sym (found_gone old.waits key) ∙ ap (λ (q : Waits). found q key) (sym is) ∙ ap (λ k. found new.waits k) (sym e) ∙ w in
        cc
    by (inr ne) = (ne, sym (found_rest old.waits key other ne) ∙ ap (λ (q : Waits). found q other) (sym is) ∙ w)

pub rest_stays : (old new : Keyed) (key : ℕ) → new.waits ≡ without old.waits key → (other m : ℕ) (b : ℤ) → other ≢ key
    → IsWaiting old other m b → IsWaiting new other m b
rest_stays old new key is other m b ne w = ap (λ (q : Waits). found q other) is ∙ found_rest old.waits key other ne ∙ w

pub taken_before : (old new : Keyed) (key : ℕ) → new.waits ≡ without old.waits key → (other m : ℕ) (b : ℤ) → IsWaiting new other m b
    → (other ≢ key) × IsWaiting old other m b
taken_before = rest_before

pub taken_keyed : (old new : Keyed) (key n prices : ℕ) (bound : ℤ) → IsKeyed old → IsWaiting old key n bound
    → new.nodes ≡ with_content old.nodes n (content.Closed prices) → new.waits ≡ without old.waits key
    → AreNumbered new.nodes → length new.nodes ≤ 2 * MOST_NODES + 1 → AllPairs (λ a b. a ≢ b) (keys_of new.waits) → IsKeyed new
taken_keyed old new key n prices bound keyed w is waits numbered few differ = record {
  numbered = numbered;
  few = few;
  leaves = λ other m b x.
      let r = rest_before old new key waits other m b x in
      let o = keyed.leaves other m b r.1 in
      let ne : m ≢ n = λ e. r.0 (keyed.one other key m b bound r.1 (subst (λ j. IsWaiting old key j bound) (sym e) w)) in
      let known = o.0 in
      let e = count in
      (omega arith, o.1, ap (λ (y : Node). y.content) (others m ne) ∙ o.2);
  one = λ other last m b c x y. keyed.one other last m b c (rest_before old new key waits other m b x).1 (rest_before old new key waits last m c y).1;
  all = λ m o. open_at m o (cases_eq m n);
  differ = differ;
}
  where
    put : Node
    put = record (node_of old.nodes n) { content = content.Closed prices }

    count : length new.nodes ≡ length old.nodes
    count = ap length is ∙ length-set old.nodes n put

    others : (m : ℕ) → m ≢ n → node_of new.nodes m ≡ node_of old.nodes m
    others m ne = ap (λ (ns : List Node). node_of ns m) is ∙ get_or-set_other old.nodes n m put (root_node 0) ne

    here : node_of new.nodes n ≡ put
    here = ap (λ (ns : List Node). node_of ns n) is ∙ get_or-set_same old.nodes n put (root_node 0) (keyed.leaves key n bound w).0

    open_at : (m : ℕ) → IsOpenNode new.nodes m → (m ≡ n) ⊎ (m ≢ n) → (k : ℕ) × (b : ℤ) × IsWaiting new k m b
    open_at m o (inl e) =
        let x : content.Closed prices ≡ content.Open o.1 =
        ap (λ (y : Node). y.content) (sym here) ∙ ap (λ j. (node_of new.nodes j).content) (sym e) ∙ o.2 in
        cc
    open_at m o (inr ne) =
        let known = o.0 in
        let e = count in
        let l : m < length old.nodes = omega arith in
        let a = keyed.all m (l, o.1, ap (λ (y : Node). y.content) (sym (others m ne)) ∙ o.2) in
        let apart : a.0 ≢ key = λ e. ne (same_item old key m n a.1 bound (subst (λ k. IsWaiting old k m a.1) e a.2) w) in
        (a.0, a.1, rest_stays old new key waits a.0 m a.1 apart a.2)

-- ---- a leaf is split

-- an entry after a split: one of before, or one of the two that were put
data Entry (old : Keyed) (key low high : ℕ) (bounds : ℤ × ℤ) (other m : ℕ) (b : ℤ) : Type 0 where
  Was : (apart : other ≢ key) (was : IsWaiting old other m b) → Entry old key low high bounds other m b
  Low : (is : other ≡ low) (child : m ≡ length old.nodes) (bound : b ≡ bounds.0) → Entry old key low high bounds other m b
  High : (is : other ≡ high) (child : m ≡ length old.nodes + 1) (bound : b ≡ bounds.1) → Entry old key low high bounds other m b

-- the two entries were put last under new keys, and one key was taken
pub record IsPut (old new : Keyed) (key low high : ℕ) (bounds : ℤ × ℤ) : Type 0 where
  pub waits : new.waits ≡ without ((old.waits ++ (low, record { bound = bounds.0; item = length old.nodes }) ∷ [])
      ++ (high, record { bound = bounds.1; item = length old.nodes + 1 }) ∷ []) key
  pub fresh : found old.waits low ≡ None
  pub other : found old.waits high ≡ None
  pub differ : low ≢ high
  pub low_apart : low ≢ key
  pub high_apart : high ≢ key

abbrev low_of : Keyed → ℤ × ℤ → Waiting
low_of old bounds = record { bound = bounds.0; item = length old.nodes }

abbrev high_of : Keyed → ℤ × ℤ → Waiting
high_of old bounds = record { bound = bounds.1; item = length old.nodes + 1 }

-- the two stand behind the others
pub put_last : (old new : Keyed) (key low high : ℕ) (bounds : ℤ × ℤ) → IsPut old new key low high bounds
    → new.waits ≡ without old.waits key ++ (low, low_of old bounds) ∷ (high, high_of old bounds) ∷ []
put_last old new key low high bounds put =
    let q : Waits = old.waits ++ (low, low_of old bounds) ∷ [] in
    put.waits ∙ without_put q key high (high_of old bounds) put.high_apart
    ∙ ap (λ (r : Waits). r ++ (high, high_of old bounds) ∷ []) (without_put old.waits key low (low_of old bounds) put.low_apart)
    ∙ append_assoc (without old.waits key) ((low, low_of old bounds) ∷ []) ((high, high_of old bounds) ∷ [])

high_found : (old new : Keyed) (key low high : ℕ) (bounds : ℤ × ℤ) → IsPut old new key low high bounds
    → found new.waits high ≡ Some (high_of old bounds)
high_found old new key low high bounds put =
    let q : Waits = old.waits ++ (low, low_of old bounds) ∷ [] in
    ap (λ (x : Waits). found x high) put.waits ∙ found_rest (q ++ (high, high_of old bounds) ∷ []) key high put.high_apart
    ∙ found_last q high (high_of old bounds) (found_before old.waits low high (low_of old bounds) (λ e. put.differ (sym e)) ∙ put.other)

low_found : (old new : Keyed) (key low high : ℕ) (bounds : ℤ × ℤ) → IsPut old new key low high bounds
    → found new.waits low ≡ Some (low_of old bounds)
low_found old new key low high bounds put =
    let q : Waits = old.waits ++ (low, low_of old bounds) ∷ [] in
    ap (λ (x : Waits). found x low) put.waits ∙ found_rest (q ++ (high, high_of old bounds) ∷ []) key low put.low_apart
    ∙ found_before q high low (high_of old bounds) put.differ ∙ found_last old.waits low (low_of old bounds) put.fresh

else_found : (old new : Keyed) (key low high : ℕ) (bounds : ℤ × ℤ) → IsPut old new key low high bounds
    → (other : ℕ) → other ≢ key → other ≢ low → other ≢ high → found new.waits other ≡ found old.waits other
else_found old new key low high bounds put other a b c =
    let q : Waits = old.waits ++ (low, low_of old bounds) ∷ [] in
    ap (λ (x : Waits). found x other) put.waits ∙ found_rest (q ++ (high, high_of old bounds) ∷ []) key other a
    ∙ found_before q high other (high_of old bounds) c ∙ found_before old.waits low other (low_of old bounds) b

key_gone : (old new : Keyed) (key low high : ℕ) (bounds : ℤ × ℤ) → IsPut old new key low high bounds → found new.waits key ≡ None
key_gone old new key low high bounds put =
    let q : Waits = old.waits ++ (low, low_of old bounds) ∷ [] in
    ap (λ (x : Waits). found x key) put.waits ∙ found_gone (q ++ (high, high_of old bounds) ∷ []) key

entry : (old new : Keyed) (key low high : ℕ) (bounds : ℤ × ℤ) → IsPut old new key low high bounds
    → (other m : ℕ) (b : ℤ) → IsWaiting new other m b → Entry old key low high bounds other m b
entry old new key low high bounds put other m b w = by (cases_eq other key) (cases_eq other low) (cases_eq other high)
  where
    by : (other ≡ key) ⊎ (other ≢ key) → (other ≡ low) ⊎ (other ≢ low) → (other ≡ high) ⊎ (other ≢ high) → Entry old key low high bounds other m b
    by (inl e) d f =
        let one : Waiting = record { bound = b; item = m } in
        let x : None ≡ Some one =
        sym (key_gone old new key low high bounds put) ∙ ap (λ k. found new.waits k) (sym e) ∙ w in
        cc
    by (inr a) (inl e) f =
        let one : Waiting = record { bound = b; item = m } in
        let x : Some (low_of old bounds) ≡ Some one =
        sym (low_found old new key low high bounds put) ∙ ap (λ k. found new.waits k) (sym e) ∙ w in
        let y : low_of old bounds ≡ one = cc x in
        Low e (ap (λ (v : Waiting). v.item) (sym y)) (ap (λ (v : Waiting). v.bound) (sym y))
    by (inr a) (inr d) (inl e) =
        let one : Waiting = record { bound = b; item = m } in
        let x : Some (high_of old bounds) ≡ Some one =
        sym (high_found old new key low high bounds put) ∙ ap (λ k. found new.waits k) (sym e) ∙ w in
        let y : high_of old bounds ≡ one = cc x in
        High e (ap (λ (v : Waiting). v.item) (sym y)) (ap (λ (v : Waiting). v.bound) (sym y))
    by (inr a) (inr d) (inr f) = Was a (sym (else_found old new key low high bounds put other a d f) ∙ w)

pub turned_before : (old new : Keyed) (key low high : ℕ) (bounds : ℤ × ℤ) → IsPut old new key low high bounds
    → (other m : ℕ) (b : ℤ) → IsWaiting new other m b → CameFrom old key bounds other m b
turned_before old new key low high bounds put other m b w = by (entry old new key low high bounds put other m b w)
  where
    by : Entry old key low high bounds other m b → CameFrom old key bounds other m b
    by (Was a was) = Before a was
    by (Low is child bound) = IsFirst (λ e. put.low_apart (sym is ∙ e)) child bound
    by (High is child bound) = IsSecond (λ e. put.high_apart (sym is ∙ e)) child bound

pub turned_stays : (old new : Keyed) (key low high : ℕ) (bounds : ℤ × ℤ) → IsPut old new key low high bounds
    → (other m : ℕ) (b : ℤ) → other ≢ key → IsWaiting old other m b → IsWaiting new other m b
turned_stays old new key low high bounds put other m b a w =
    else_found old new key low high bounds put other a (differs low put.fresh) (differs high put.other) ∙ w
  where
    differs : (x : ℕ) → found old.waits x ≡ None → other ≢ x
    differs x none = λ e.
        let one : Waiting = record { bound = b; item = m } in
        let y : None ≡ Some one = sym none ∙ ap (λ k. found old.waits k) (sym e) ∙ w in
        cc

pub turned_keyed : (old new : Keyed) (key n low high cause prices : ℕ) (choice : Choice) (bounds : ℤ × ℤ) (bound : ℤ) → IsKeyed old
    → IsWaiting old key n bound → HasSplit old.nodes new.nodes n choice cause prices → IsPut old new key low high bounds
    → AreNumbered new.nodes → length new.nodes ≤ 2 * MOST_NODES + 1 → AllPairs (λ a b. a ≢ b) (keys_of new.waits) → IsKeyed new
turned_keyed old new key n low high cause prices choice bounds bound keyed w has put numbered few differ = record {
  numbered = numbered;
  few = few;
  leaves = λ other m b x. leaf other m b (entry old new key low high bounds put other m b x);
  one = λ other last m b c x y. one other last m b c (entry old new key low high bounds put other m b x) (entry old new key low high bounds put last m c y);
  all = λ m o. open_at m o (cases_eq m n) (cases_lt m (length old.nodes)) (cases_eq m (length old.nodes));
  differ = differ;
}
  where
    leaf : (other m : ℕ) (b : ℤ) → Entry old key low high bounds other m b → IsOpenNode new.nodes m
    leaf other m b (Was a was) =
        let o = keyed.leaves other m b was in
        let ne : m ≢ n = λ e. a (keyed.one other key m b bound was (subst (λ j. IsWaiting old key j bound) (sym e) w)) in
        let count = has.count in
        let known = o.0 in
        (omega arith, o.1, ap (λ (y : Node). y.content) (has.others m known ne) ∙ o.2)
    leaf other m b (Low is child bound) =
        let count = has.count in
        (omega arith, prices, ap (λ j. (node_of new.nodes j).content) child ∙ ap (λ (y : Node). y.content) has.first)
    leaf other m b (High is child bound) =
        let count = has.count in
        (omega arith, prices, ap (λ j. (node_of new.nodes j).content) child ∙ ap (λ (y : Node). y.content) has.second)

    one : (other last m : ℕ) (b c : ℤ) → Entry old key low high bounds other m b → Entry old key low high bounds last m c → other ≡ last
    one other last m b c (Was a x) (Was d y) = keyed.one other last m b c x y
    one other last m b c (Was a x) (Low is child f) = let l = (keyed.leaves other m b x).0 in absurd (omega arith)
    one other last m b c (Was a x) (High is child f) = let l = (keyed.leaves other m b x).0 in absurd (omega arith)
    one other last m b c (Low is child f) (Was a x) = let l = (keyed.leaves last m c x).0 in absurd (omega arith)
    one other last m b c (Low is child f) (Low also same g) = is ∙ sym also
    one other last m b c (Low is child f) (High also same g) = absurd (omega arith)
    one other last m b c (High is child f) (Was a x) = let l = (keyed.leaves last m c x).0 in absurd (omega arith)
    one other last m b c (High is child f) (Low also same g) = absurd (omega arith)
    one other last m b c (High is child f) (High also same g) = is ∙ sym also

    open_at : (m : ℕ) → IsOpenNode new.nodes m → (m ≡ n) ⊎ (m ≢ n) → (m < length old.nodes) ⊎ (length old.nodes ≤ m)
        → (m ≡ length old.nodes) ⊎ (m ≢ length old.nodes) → (k : ℕ) × (b : ℤ) × IsWaiting new k m b
    open_at m o (inl e) range first =
        let x : content.Split choice cause (length old.nodes) ≡ content.Open o.1 =
        ap (λ (y : Node). y.content) (sym has.here) ∙ ap (λ j. (node_of new.nodes j).content) (sym e) ∙ o.2 in
        cc
    open_at m o (inr ne) (inl l) first =
        let a = keyed.all m (l, o.1, ap (λ (y : Node). y.content) (sym (has.others m l ne)) ∙ o.2) in
        let apart : a.0 ≢ key = λ e. ne (same_item old key m n a.1 bound (subst (λ k. IsWaiting old k m a.1) e a.2) w) in
        (a.0, a.1, turned_stays old new key low high bounds put a.0 m a.1 apart a.2)
    open_at m o (inr ne) (inr past) (inl e) =
        (low, bounds.0, low_found old new key low high bounds put ∙ ap (λ (j : ℕ). Some (record { bound = bounds.0; item = j })) (sym e))
    open_at m o (inr ne) (inr past) (inr other) =
        let count = has.count in
        let known = o.0 in
        let e : length old.nodes + 1 ≡ m = omega arith in
        (high, bounds.1, high_found old new key low high bounds put ∙ ap (λ (j : ℕ). Some (record { bound = bounds.1; item = j })) e)
