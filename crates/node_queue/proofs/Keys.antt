-- the keys by age, and what the slab has under them
use Rattle.std.proofs.Common.{◌≡◌, ◌≢◌, ◌==◌, ℕ, false, not, List, [], ◌∷◌, ◌++◌, ◌⊎◌, inl, inr, refl, ap, sym, ◌∙◌, arith, Option, None, Some}
use Rattle.std.specs.Prelude.{All, AllPairs, Contains, IsSome, is_some, filter}
use Rattle.std.specs.Option.{option_map}
use Rattle.std.proofs.lemmas.Bool.{cases_eq, eq-eqb, ne_eqb, both_ways}
use Rattle.std.proofs.lemmas.List.Elements.{All-contains}
use Rattle.slab.proofs.SlabLemmas.{Contains-cons, Contains-cons_cases}
use Rattle.slab.specs.Slab.{Slab, get, ContainsKey, Updates}
use Rattle.node_queue.specs.declared.Entry.{Entry}
use Rattle.node_queue.specs.Waits.{Waits, found, keys_of, without}
use Rattle.node_queue.specs.Kept.{waiting_of, waiting_or, waits_in}

-- the keys by age are the keys of the slab
pub record AreKeys (s : Slab Entry) (keys : List ℕ) : Type 0 where
  pub has : All (ContainsKey s) keys
  pub differ : AllPairs (λ a b. a ≢ b) keys
  pub all : (key : ℕ) → ContainsKey s key → Contains keys key

pub keys_waits : (s : Slab Entry) (ages : List ℕ) → keys_of (waits_in s ages) ≡ ages
keys_waits s [] = refl
keys_waits s (k ∷ ks) = ap (λ xs. k ∷ xs) (keys_waits s ks)

some_of : (o : Option Entry) → IsSome o → option_map waiting_of o ≡ Some (waiting_or o)
some_of None h = absurd (both_ways false refl h)
some_of (Some e) h = refl

none_of : (o : Option Entry) → (IsSome o → ⊥) → option_map waiting_of o ≡ None
none_of None h = refl
none_of (Some e) h = absurd (h refl)

-- a key of the list, or no key of it
found_cases : (s : Slab Entry) (ages : List ℕ) (key : ℕ)
    → (Contains ages key × (found (waits_in s ages) key ≡ Some (waiting_or (get s key)))) ⊎ ((Contains ages key → ⊥) × (found (waits_in s ages) key ≡ None))
found_cases s [] key = inr (λ c. omega (arith, c.1), refl)
found_cases s (k ∷ ks) key = by (cases_eq k key) (found_cases s ks key)
  where
    by : (k ≡ key) ⊎ (k ≡ key → ⊥)
        → (Contains ks key × (found (waits_in s ks) key ≡ Some (waiting_or (get s key)))) ⊎ ((Contains ks key → ⊥) × (found (waits_in s ks) key ≡ None))
        → (Contains (k ∷ ks) key × (found (waits_in s (k ∷ ks)) key ≡ Some (waiting_or (get s key)))) ⊎ ((Contains (k ∷ ks) key → ⊥) × (found (waits_in s (k ∷ ks)) key ≡ None))
    by (inl e) rest = inl ((0, omega arith, e), rw (eq-eqb k key e) (ap (λ j. Some (waiting_or (get s j))) e))
    by (inr ne) (inl (c, e)) = inl (Contains-cons k key ks c, rw (ne_eqb k key ne) e)
    by (inr ne) (inr (out, e)) = inr (λ c. elim (Contains-cons_cases k key ks c) [ inl f ↦ ne f | inr d ↦ out d ], rw (ne_eqb k key ne) e)

-- what is found is what the slab has
pub found_is : (s : Slab Entry) (ages : List ℕ) (q : Waits) (key : ℕ) → AreKeys s ages → waits_in s ages ≡ q → found q key ≡ option_map waiting_of (get s key)
found_is s ages q key is view = ap (λ r. found r key) (sym view) ∙ by (found_cases s ages key)
  where
    by : (Contains ages key × (found (waits_in s ages) key ≡ Some (waiting_or (get s key)))) ⊎ ((Contains ages key → ⊥) × (found (waits_in s ages) key ≡ None)) → found (waits_in s ages) key ≡ option_map waiting_of (get s key)
    by (inl (c, e)) = e ∙ sym (some_of (get s key) (All-contains (ContainsKey s) ages key is.has c))
    by (inr (out, e)) = e ∙ sym (none_of (get s key) (λ h. out (is.all key h)))

-- the keys that differ from one
abbrev pub others : List ℕ → ℕ → List ℕ
others ages key = filter (λ other. not (other == key)) ages

-- without a key, where the others keep what they had
pub without_is : (s t : Slab Entry) (ages : List ℕ) (key : ℕ) → ((k : ℕ) → k ≢ key → get t k ≡ get s k)
    → waits_in t (others ages key) ≡ without (waits_in s ages) key
without_is s t [] key same = refl
without_is s t (k ∷ ks) key same = by (cases_eq k key) (without_is s t ks key same)
  where
    by : (k ≡ key) ⊎ (k ≡ key → ⊥) → waits_in t (others ks key) ≡ without (waits_in s ks) key
        → waits_in t (others (k ∷ ks) key) ≡ without (waits_in s (k ∷ ks)) key
    by (inl e) rest = rw (eq-eqb k key e) rest
    by (inr ne) rest = rw (ne_eqb k key ne) (ap (λ o. (k, waiting_or o) ∷ waits_in t (others ks key)) (same k ne) ∙ ap (λ q. (k, waiting_or (get s k)) ∷ q) rest)

-- and without a key that the list does not have
pub without_none : (s : Slab Entry) (ages : List ℕ) (key : ℕ) → (Contains ages key → ⊥) → without (waits_in s ages) key ≡ waits_in s ages
without_none s [] key out = refl
without_none s (k ∷ ks) key out = rw (ne_eqb k key (λ e. out (0, omega arith, e))) (ap (λ q. (k, waiting_or (get s k)) ∷ q) (without_none s ks key (λ c. out (Contains-cons k key ks c))))

-- a key under which the slab has nothing is not in the list
pub vacant_out : (s : Slab Entry) (ages : List ℕ) (key : ℕ) → AreKeys s ages → get s key ≡ None → Contains ages key → ⊥
vacant_out s ages key is e c = both_ways (is_some (get s key)) (ap is_some e) (All-contains (ContainsKey s) ages key is.has c)

-- one more waits
pub one_more : (s t : Slab Entry) (ages : List ℕ) (key : ℕ) (w : Entry) → (Contains ages key → ⊥) → Updates s t key (Some w)
    → waits_in t (ages ++ key ∷ []) ≡ waits_in s ages ++ (key, w.waiting) ∷ []
one_more s t [] key w out u = ap (λ o. (key, waiting_or o) ∷ []) u.changed
one_more s t (k ∷ ks) key w out u =
    ap (λ o. (k, waiting_or o) ∷ waits_in t (ks ++ key ∷ [])) (u.others k (λ e. out (0, omega arith, e)))
    ∙ ap (λ q. (k, waiting_or (get s k)) ∷ q) (one_more s t ks key w (λ c. out (Contains-cons k key ks c)) u)
