-- what is found under keys, where entries are put and taken
use Rattle.std.proofs.Common.{◌≡◌, ◌≢◌, ◌<◌, ◌==◌, ℕ, ℤ, zero, suc, get_or, List, length, [], ◌∷◌, ◌++◌, ◌+◌, ◌⊎◌, inl, inr, refl, ap, sym, subst, ◌∙◌, arith, Option, None, Some, not}
use Rattle.std.specs.Option.{option_map}
use Rattle.std.specs.Prelude.{◌≤ℤ◌, ◌<ℤ◌, All, AllPairs, Contains}
use Rattle.std.proofs.lemmas.Int.{ints}
use Rattle.std.proofs.lemmas.Bool.{cases_eq, eq-eqb, ne_eqb}
use Rattle.std.proofs.lemmas.List.{get_or_append_left, get_or-append-add, get_or_default, length-append, length-map, map-append}
use Rattle.std.proofs.lemmas.List.Elements.{All-append, All-cons, All-head, All-same, All-tail, All-weaker, Contains-append_left, Contains-append_right, Contains-append_cases, filter-append}
use Rattle.node_queue.specs.declared.Waiting.{Waiting}
use Rattle.node_queue.specs.Waits.{IsLeast, Waits, found, keys_of, without}

-- an entry further on is found, where the first has another key
pub found_on : (e : ℕ × Waiting) (q : Waits) (k : ℕ) → e.0 ≢ k → found (e ∷ q) k ≡ found q k
found_on e q k ne = rw (ne_eqb e.0 k ne) refl

pub found_here : (e : ℕ × Waiting) (q : Waits) (k : ℕ) → e.0 ≡ k → found (e ∷ q) k ≡ Some e.1
found_here e q k is = rw (eq-eqb e.0 k is) refl

-- what is taken is not found
pub found_gone : (q : Waits) (k : ℕ) → found (without q k) k ≡ None
found_gone [] k = refl
found_gone (e ∷ q) k = by (cases_eq e.0 k) (found_gone q k)
  where
    by : (e.0 ≡ k) ⊎ (e.0 ≢ k) → found (without q k) k ≡ None → found (without (e ∷ q) k) k ≡ None
    by (inl is) rest = rw (eq-eqb e.0 k is) rest
    by (inr ne) rest = rw (ne_eqb e.0 k ne) (found_on e (without q k) k ne ∙ rest)

-- and the others are found as before
pub found_rest : (q : Waits) (k other : ℕ) → other ≢ k → found (without q k) other ≡ found q other
found_rest [] k other apart = refl
found_rest (e ∷ q) k other apart = by (cases_eq e.0 k) (cases_eq e.0 other) (found_rest q k other apart)
  where
    by : (e.0 ≡ k) ⊎ (e.0 ≢ k) → (e.0 ≡ other) ⊎ (e.0 ≢ other) → found (without q k) other ≡ found q other
        → found (without (e ∷ q) k) other ≡ found (e ∷ q) other
    by (inl is) (inl here) rest = absurd (apart (sym here ∙ is))
    by (inl is) (inr ne) rest = rw (eq-eqb e.0 k is) (rest ∙ sym (found_on e q other ne))
    by (inr ne) (inl here) rest = rw (ne_eqb e.0 k ne) (found_here e (without q k) other here ∙ sym (found_here e q other here))
    by (inr ne) (inr on) rest = rw (ne_eqb e.0 k ne) (found_on e (without q k) other on ∙ rest ∙ sym (found_on e q other on))

-- the first entry has another key, where nothing is found
pub none_here : (e : ℕ × Waiting) (q : Waits) (k : ℕ) → found (e ∷ q) k ≡ None → e.0 ≢ k
none_here e q k none = λ here. let x : Some e.1 ≡ None = sym (found_here e q k here) ∙ none in cc

pub none_on : (e : ℕ × Waiting) (q : Waits) (k : ℕ) → found (e ∷ q) k ≡ None → found q k ≡ None
none_on e q k none = sym (found_on e q k (none_here e q k none)) ∙ none

-- one put last is found, where its key is new
pub found_last : (q : Waits) (k : ℕ) (w : Waiting) → found q k ≡ None → found (q ++ (k, w) ∷ []) k ≡ Some w
found_last [] k w fresh = found_here (k, w) [] k refl
found_last (e ∷ q) k w fresh =
    found_on e (q ++ (k, w) ∷ []) k (none_here e q k fresh) ∙ found_last q k w (none_on e q k fresh)

-- and the others are found as before
pub found_before : (q : Waits) (k other : ℕ) (w : Waiting) → other ≢ k → found (q ++ (k, w) ∷ []) other ≡ found q other
found_before [] k other w apart = found_on (k, w) [] other (λ is. apart (sym is))
found_before (e ∷ q) k other w apart = by (cases_eq e.0 other) (found_before q k other w apart)
  where
    by : (e.0 ≡ other) ⊎ (e.0 ≢ other) → found (q ++ (k, w) ∷ []) other ≡ found q other
        → found ((e ∷ q) ++ (k, w) ∷ []) other ≡ found (e ∷ q) other
    by (inl here) rest = found_here e (q ++ (k, w) ∷ []) other here ∙ sym (found_here e q other here)
    by (inr on) rest = found_on e (q ++ (k, w) ∷ []) other on ∙ rest ∙ sym (found_on e q other on)

-- one put last and taken again
pub without_last : (q : Waits) (k : ℕ) (w : Waiting) → found q k ≡ None → without (q ++ (k, w) ∷ []) k ≡ q
without_last [] k w fresh = rw (eq-eqb k k refl) refl
without_last (e ∷ q) k w fresh =
    let ne : e.0 ≢ k = none_here e q k fresh in
    rw (ne_eqb e.0 k ne) (ap (λ (r : Waits). e ∷ r) (without_last q k w (none_on e q k fresh)))

-- one put last, with another key than the one that is taken
pub without_put : (q : Waits) (k other : ℕ) (w : Waiting) → other ≢ k → without (q ++ (other, w) ∷ []) k ≡ without q k ++ (other, w) ∷ []
without_put q k other w apart =
    filter-append (λ (e : ℕ × Waiting). not (e.0 == k)) q ((other, w) ∷ [])
    ∙ ap (λ (r : Waits). without q k ++ r) (rw (ne_eqb other k apart) refl)

-- what is found has a key
pub found_key : (q : Waits) (k : ℕ) (w : Waiting) → found q k ≡ Some w → Contains (keys_of q) k
found_key [] k w is = let e : None ≡ Some w = is in cc
found_key (e ∷ q) k w is = by (cases_eq e.0 k) (λ rest. found_key q k w rest)
  where
    by : (e.0 ≡ k) ⊎ (e.0 ≢ k) → (found q k ≡ Some w → Contains (keys_of q) k) → Contains (keys_of (e ∷ q)) k
    by (inl here) rest = Contains-append_left (e.0 ∷ []) (keys_of q) k (0, omega arith, here)
    by (inr ne) rest = Contains-append_right (e.0 ∷ []) (keys_of q) k (rest (sym (found_on e q k ne) ∙ is))

-- nothing is found under a key that is not there
pub none_found : (q : Waits) (k : ℕ) → (Contains (keys_of q) k → ⊥) → found q k ≡ None
none_found q k out = by (found q k) refl
  where
    by : (o : Option Waiting) → found q k ≡ o → o ≡ None
    by None is = refl
    by (Some w) is = absurd (out (found_key q k w is))

alone : (k x : ℕ) → Contains (k ∷ []) x → k ≡ x
alone k x c = by c.0 c.1 c.2
  where
    by : (i : ℕ) → i < 1 → get_or (k ∷ []) i x ≡ x → k ≡ x
    by zero l is = is
    by (suc i) l is = absurd (omega arith)

-- under each key something is found
pub key_found : (q : Waits) (k : ℕ) → Contains (keys_of q) k → (w : Waiting) × (found q k ≡ Some w)
key_found [] k c = absurd (omega (arith, c.1))
key_found (e ∷ q) k c = by (cases_eq e.0 k) (Contains-append_cases (e.0 ∷ []) (keys_of q) k c) (λ rest. key_found q k rest)
  where
    by : (e.0 ≡ k) ⊎ (e.0 ≢ k) → Contains (e.0 ∷ []) k ⊎ Contains (keys_of q) k
        → (Contains (keys_of q) k → (w : Waiting) × (found q k ≡ Some w)) → (w : Waiting) × (found (e ∷ q) k ≡ Some w)
    by (inl here) c on = (e.1, found_here e q k here)
    by (inr ne) (inl one) on = absurd (ne (alone e.0 k one))
    by (inr ne) (inr rest) on = let r = on rest in (r.0, found_on e q k ne ∙ r.1)

-- what has an item
pub item_of : (o : Option Waiting) (n : ℕ) → option_map (λ waiting. waiting.item) o ≡ Some n
    → (bound : ℤ) × (o ≡ Some (record { bound = bound; item = n }))
item_of None n e = let x : None ≡ Some n = e in cc
item_of (Some w) n e =
    let x : Some w.item ≡ Some n = e in
    let same : w.item ≡ n = cc x in
    (w.bound, ap (λ (i : ℕ). Some (record { bound = w.bound; item = i })) same)

-- the n-th key is one
pub key_at : (q : Waits) (n k : ℕ) → n < length q → k ≡ get_or (keys_of q) n 0 → (w : Waiting) × (found q k ≡ Some w)
key_at q n k l is =
    let count : length (keys_of q) ≡ length q = length-map q (λ (e : ℕ × Waiting). e.0) in
    let known : n < length (keys_of q) = omega arith in
    key_found q k (n, known, get_or_default (keys_of q) n k 0 known ∙ sym is)

some_found : (older younger : Waits) (k : ℕ) (w : Waiting) → (v : Waiting) × (found (older ++ (k, w) ∷ younger) k ≡ Some v)
some_found [] younger k w = (w, found_here (k, w) younger k refl)
some_found (e ∷ older) younger k w = by (cases_eq e.0 k) (some_found older younger k w)
  where
    by : (e.0 ≡ k) ⊎ (e.0 ≢ k) → (v : Waiting) × (found (older ++ (k, w) ∷ younger) k ≡ Some v)
        → (v : Waiting) × (found ((e ∷ older) ++ (k, w) ∷ younger) k ≡ Some v)
    by (inl here) rest = (e.1, found_here e (older ++ (k, w) ∷ younger) k here)
    by (inr ne) rest = (rest.0, found_on e (older ++ (k, w) ∷ younger) k ne ∙ rest.1)

-- the least is one
pub least_found : (q : Waits) (k : ℕ) → IsLeast q k → (w : Waiting) × (found q k ≡ Some w)
least_found q k least =
    let f = some_found least.older least.younger k least.waiting in
    (f.0, ap (λ (x : Waits). found x k) least.stands ∙ f.1)

-- a key of before is a key
pub key_stays : (q r : Waits) (k : ℕ) → Contains (keys_of q) k → Contains (keys_of (q ++ r)) k
key_stays q r k c =
    subst (λ (ks : List ℕ). Contains ks k) (sym (map-append (λ (e : ℕ × Waiting). e.0) q r)) (Contains-append_left (keys_of q) (keys_of r) k c)

-- one put last has its key
pub last_key : (q : Waits) (k : ℕ) (w : Waiting) → Contains (keys_of (q ++ (k, w) ∷ [])) k
last_key q k w =
    subst (λ (ks : List ℕ). Contains ks k) (sym (map-append (λ (e : ℕ × Waiting). e.0) q ((k, w) ∷ [])))
    (Contains-append_right (keys_of q) (k ∷ []) k (0, omega arith, refl))

-- where nothing is found in the first part, the second decides
found_behind : (older rest : Waits) (k : ℕ) → found older k ≡ None → found (older ++ rest) k ≡ found rest k
found_behind [] rest k none = refl
found_behind (e ∷ older) rest k none =
    found_on e (older ++ rest) k (none_here e older k none) ∙ found_behind older rest k (none_on e older k none)

-- what is least is found under its key, where keys differ
pub least_is : (q : Waits) (k : ℕ) (least : IsLeast q k) → AllPairs (λ a b. a ≢ b) (keys_of q) → found q k ≡ Some least.waiting
least_is q k least differ =
    ap (λ (x : Waits). found x k) least.stands
    ∙ found_behind least.older ((k, least.waiting) ∷ least.younger) k (none_found least.older k out)
    ∙ found_here (k, least.waiting) least.younger k refl
  where
    ks : List ℕ
    ks = keys_of least.older

    all : keys_of q ≡ ks ++ (k ∷ keys_of least.younger)
    all = ap keys_of least.stands ∙ map-append (λ (e : ℕ × Waiting). e.0) least.older ((k, least.waiting) ∷ least.younger)

    out : Contains ks k → ⊥
    out x =
        let i = x.0 in
        let l = x.1 in
        let apart : AllPairs (λ a b. a ≢ b) (ks ++ (k ∷ keys_of least.younger)) = subst (λ (y : List ℕ). AllPairs (λ a b. a ≢ b) y) all differ in
        let long : length (ks ++ (k ∷ keys_of least.younger)) ≡ length ks + suc (length (keys_of least.younger)) =
        length-append ks (k ∷ keys_of least.younger) in
        let at : length ks + 0 ≡ length ks = omega arith in
        apart i (length ks) k l (omega arith)
        (get_or_append_left ks (k ∷ keys_of least.younger) k i l ∙ x.2
        ∙ sym (ap (λ j. get_or (ks ++ (k ∷ keys_of least.younger)) j k) (sym at) ∙ get_or-append-add ks (k ∷ keys_of least.younger) 0 k))

abbrev not_below : ℤ → ℕ × Waiting → Type 0
not_below bound e = bound ≤ℤ e.1.bound

abbrev above : ℤ → ℕ × Waiting → Type 0
above bound e = bound <ℤ e.1.bound

-- no bound is below the least
least_all : (q : Waits) (k : ℕ) (least : IsLeast q k) → All (not_below least.waiting.bound) q
least_all q k least =
    let w = least.waiting in
    All-same (not_below w.bound) q (least.older ++ ((k, w) ∷ least.younger)) least.stands
    (All-append (not_below w.bound) least.older ((k, w) ∷ least.younger)
    (All-weaker (above w.bound) (not_below w.bound) (λ e h. omega (arith, ints)) least.older least.below_older)
    (All-cons (not_below w.bound) (k, w) least.younger (omega (arith, ints)) least.not_above_younger))

found_all : (bound : ℤ) (q : Waits) (other : ℕ) (v : Waiting) → All (not_below bound) q → found q other ≡ Some v → bound ≤ℤ v.bound
found_all bound [] other v all is = let x : None ≡ Some v = is in let none : ⊥ = cc in absurd none
found_all bound (e ∷ q) other v all is = by (cases_eq e.0 other) (λ x. found_all bound q other v (All-tail (not_below bound) e q all) x)
  where
    by : (e.0 ≡ other) ⊎ (e.0 ≢ other) → (found q other ≡ Some v → bound ≤ℤ v.bound) → bound ≤ℤ v.bound
    by (inl here) more =
        let x : Some e.1 ≡ Some v = sym (found_here e q other here) ∙ is in
        let same : e.1 ≡ v = cc x in
        subst (λ (y : Waiting). bound ≤ℤ y.bound) same (All-head (not_below bound) e q all)
    by (inr ne) more = more (sym (found_on e q other ne) ∙ is)

-- so no bound is below that of the least key
pub least_bound : (q : Waits) (k : ℕ) → IsLeast q k → AllPairs (λ a b. a ≢ b) (keys_of q) → (v w : Waiting) (other : ℕ)
    → found q k ≡ Some v → found q other ≡ Some w → v.bound ≤ℤ w.bound
least_bound q k least differ v w other here there =
    let x : Some least.waiting ≡ Some v = sym (least_is q k least differ) ∙ here in
    let same : least.waiting ≡ v = cc x in
    subst (λ (y : Waiting). y.bound ≤ℤ w.bound) same (found_all least.waiting.bound q other w (least_all q k least) there)
