-- the keys by age, and the ranks
use Rattle.std.proofs.Common.{◌≡◌, ◌≢◌, ◌<◌, ◌++◌, ℕ, suc, Bool, true, false, cond, List, [], ◌∷◌, length, get_or, Option, None, Some, refl, ap, sym, subst, ◌∙◌, arith}
use Rattle.std.specs.Prelude.{All, AllPairs, Contains, IsSome, is_some}
use Rattle.std.specs.BTreeMap as tree
use Rattle.std.specs.BTreeMap.{BTreeMap, insert_entry, is_at}
use Rattle.std.specs.Cmp.{IsTotalOrder, Equal-is, nat_cmp_is}
use Rattle.std.specs.Map.{keys_of, lookup, remove_entry, values_of}
use Rattle.std.specs.Option.{option_map, unwrap_or}
use Rattle.std.specs.Ordering.{nat_cmp, int_cmp, is_eq}
use Rattle.std.specs.declared.cmp.Ordering.{Ordering}
use Rattle.std.specs.declared.cmp.Ordering.TheVariants.{Greater}
use Rattle.std.proofs.lemmas.Bool.{eq-eqb, ne_eqb, both_ways}
use Rattle.std.proofs.lemmas.Cmp.{nat_cmp_total, int_cmp_total, on_total, then_total, tied_itself}
use Rattle.std.proofs.lemmas.List.{get_or-map, length-map}
use Rattle.std.proofs.lemmas.List.Elements.{All-contains, All-contains_itself}
use Rattle.std.proofs.lemmas.Map.Keys.{below_from_sorted}
use Rattle.std.proofs.lemmas.Map.Lookups.{CmpEqualImpliesEq, exact_pairs, exact_signed, exact_unsigned}
use Rattle.std.proofs.lemmas.Map.Views.{btree_map_get_iff, btree_map_contains_key_iff}
use Rattle.slab.proofs.SlabLemmas.{Contains-cons}
use Rattle.slab.specs.Slab.{Slab, get, ContainsKey}
use Rattle.node_queue.specs.declared.Entry.{Entry}
use Rattle.node_queue.specs.Kept.{IsIndex, Rank, age_of, rank_cmp, rank_of}
use Rattle.node_queue.proofs.Keys.{AreKeys, others}

pub ranks : IsTotalOrder rank_cmp
ranks = then_total (on_total (λ (r : Rank). r.0) int_cmp_total) (on_total (λ (r : Rank). r.1) nat_cmp_total)

pub ranks_tell : CmpEqualImpliesEq rank_cmp
ranks_tell = exact_pairs int_cmp nat_cmp exact_signed exact_unsigned

-- a place that a look-up is equal to is the one looked up
pub hits : {K : Type 0} {R : K → K → Ordering} → CmpEqualImpliesEq R → (x q : K) → is_at (R x) q ≡ true → x ≡ q
hits {K} {R} tell x q h = tell x q ((Equal-is (R x q)).0 h)

pub hits_itself : {K : Type 0} {R : K → K → Ordering} → IsTotalOrder R → (x : K) → is_at (R x) x ≡ true
hits_itself o x = ap is_eq (tied_itself o x)

-- an age past all has no key
pub past_all : (m : BTreeMap ℕ ℕ) (age : ℕ) → All (λ (a : ℕ). a < age) (tree.keys m) → (o : Option ℕ) → tree.get nat_cmp m age ≡ o → o ≡ None
past_all m age past None is = refl
past_all m age past (Some key) is =
    let among : Contains (tree.keys m) age = (btree_map_contains_key_iff nat_cmp_total exact_unsigned m age).0 (ap is_some is) in
    absurd (omega (arith, All-contains (λ (a : ℕ). a < age) (tree.keys m) age past among))

-- nor has a rank of that age
pub rank_past : (s : Slab Entry) (m : ℕ → Option ℕ) (n : Rank → Option ℕ) (rank : Rank) → IsIndex age_of s m → IsIndex rank_of s n → m rank.1 ≡ None
    → (o : Option ℕ) → n rank ≡ o → o ≡ None
rank_past s m n rank by_age by_rank none None is = refl
rank_past s m n rank by_age by_rank none (Some key) is = by (get s key) refl (by_rank.all rank key is)
  where
    by : (o : Option Entry) → get s key ≡ o → option_map rank_of o ≡ Some rank → Some key ≡ None
    by None at its = absurd (both_ways (is_some (option_map rank_of None)) refl (ap is_some its))
    by (Some e) at its =
        let same : e.age ≡ rank.1 = ap (λ (o : Option Rank). (unwrap_or o rank).1) its in
        sym (by_age.has key e at) ∙ ap m same ∙ none

-- the youngest comes last
pub insert_last : (es : List (ℕ × ℕ)) (age key : ℕ) → All (λ (a : ℕ). a < age) (keys_of es) → values_of (insert_entry nat_cmp es age key) ≡ values_of es ++ key ∷ []
insert_last [] age key past = refl
insert_last (e ∷ es) age key past =
    let first : e.0 < age = past 0 0 (omega arith) in
    let rest : All (λ (a : ℕ). a < age) (keys_of es) = λ k d within. past (suc k) d (omega (arith, within)) in
    let after : nat_cmp age e.0 ≡ Greater = sym (nat_cmp_is age e.0 Greater first) in
    rw after (ap (λ ks. e.1 ∷ ks) (insert_last es age key rest))

-- what a look-up finds is among the values
found_among : {K : Type 0} (test : K → Bool) (es : List (K × ℕ)) (key : ℕ) → lookup test es ≡ Some key → Contains (values_of es) key
found_among test [] key is = absurd (both_ways false refl (ap is_some is))
found_among {K} test (e ∷ es) key is = by (test e.0) is (found_among test es key)
  where
    by : (b : Bool) → cond b (Some e.1) (lookup test es) ≡ Some key → (lookup test es ≡ Some key → Contains (values_of es) key) → Contains (e.1 ∷ values_of es) key
    by true is rest = (0, omega arith, ap (λ o. unwrap_or o e.1) is)
    by false is rest = Contains-cons e.1 key (values_of es) (rest is)

-- the others of a list that does not have the key are all
all_others : (ks : List ℕ) (key : ℕ) → (Contains ks key → ⊥) → others ks key ≡ ks
all_others [] key out = refl
all_others (k ∷ ks) key out = rw (ne_eqb k key (λ e. out (0, omega arith, e))) (ap (λ js. k ∷ js) (all_others ks key (λ c. out (Contains-cons k key ks c))))

-- the first of keys that differ is none of the others
first_differs : (k : ℕ) (ks : List ℕ) → AllPairs (λ a b. a ≢ b) (k ∷ ks) → Contains ks k → ⊥
first_differs k ks differ c = differ 0 (suc c.0) k (omega arith) (omega (arith, c.1)) (sym c.2)

-- without an age, the keys are those that differ from its key
pub others_left : (es : List (ℕ × ℕ)) (age key : ℕ) → AllPairs (λ a b. a ≢ b) (values_of es) → lookup (is_at (nat_cmp age)) es ≡ Some key
    → values_of (remove_entry (is_at (nat_cmp age)) es) ≡ others (values_of es) key
others_left [] age key differ is = refl
others_left (e ∷ es) age key differ is =
    by (is_at (nat_cmp age) e.0) is (others_left es age key (λ i j d lt within. differ (suc i) (suc j) d (omega (arith, lt)) (omega (arith, within))))
  where
    by : (b : Bool) → cond b (Some e.1) (lookup (is_at (nat_cmp age)) es) ≡ Some key
        → (lookup (is_at (nat_cmp age)) es ≡ Some key → values_of (remove_entry (is_at (nat_cmp age)) es) ≡ others (values_of es) key)
        → values_of (cond b es (e ∷ remove_entry (is_at (nat_cmp age)) es)) ≡ others (e.1 ∷ values_of es) key
    by true is rest =
        let same : e.1 ≡ key = ap (λ o. unwrap_or o e.1) is in
        rw (eq-eqb e.1 key same) (sym (all_others (values_of es) key (subst (λ k. Contains (values_of es) k → ⊥) same (first_differs e.1 (values_of es) differ))))
    by false is rest =
        let among : Contains (values_of es) key = found_among (is_at (nat_cmp age)) es key is in
        let ne : e.1 ≢ key = λ same. first_differs e.1 (values_of es) differ (subst (Contains (values_of es)) (sym same) among) in
        rw (ne_eqb e.1 key ne) (ap (λ ks. e.1 ∷ ks) (rest is))

-- what waits under a key of the list of the ages
pub at_age : (s : Slab Entry) (m : BTreeMap ℕ ℕ) (e : ℕ × ℕ) → IsIndex age_of s (tree.get nat_cmp m) → tree.IsOrdered nat_cmp m → Contains m.entries e
    → option_map age_of (get s e.1) ≡ Some e.0
at_age s m e index ordered among = index.all e.0 e.1 ((btree_map_get_iff nat_cmp_total exact_unsigned m ordered e.0 e.1).1 among)

is_some_map : (o : Option Entry) (age : ℕ) → option_map age_of o ≡ Some age → IsSome o
is_some_map None age is = absurd (both_ways false refl (ap is_some is))
is_some_map (Some e) age is = refl

pub are_keys : (s : Slab Entry) (m : BTreeMap ℕ ℕ) → IsIndex age_of s (tree.get nat_cmp m) → tree.IsOrdered nat_cmp m → AreKeys s (tree.values m)
are_keys s m index ordered = record {
  has = λ k d within.
      let short : k < length m.entries = omega (arith, within, length-map m.entries (λ (e : ℕ × ℕ). e.1)) in
      let e : ℕ × ℕ = get_or m.entries k (d, d) in
      let is : get_or (tree.values m) k d ≡ e.1 = get_or-map (λ (e : ℕ × ℕ). e.1) m.entries k (d, d) d short in
      subst (ContainsKey s) (sym is) (is_some_map (get s e.1) e.0 (at_age s m e index ordered (All-contains_itself m.entries k (d, d) short)));
  differ = λ i j d lt within same.
      let later : j < length m.entries = omega (arith, within, length-map m.entries (λ (e : ℕ × ℕ). e.1)) in
      let early : i < length m.entries = omega (arith, lt, later) in
      let e : ℕ × ℕ = get_or m.entries i (d, d) in
      let f : ℕ × ℕ = get_or m.entries j (d, d) in
      let is : e.1 ≡ f.1 = sym (get_or-map (λ (e : ℕ × ℕ). e.1) m.entries i (d, d) d early) ∙ same ∙ get_or-map (λ (e : ℕ × ℕ). e.1) m.entries j (d, d) d later in
      let at_e : option_map age_of (get s e.1) ≡ Some e.0 = at_age s m e index ordered (All-contains_itself m.entries i (d, d) early) in
      let at_f : option_map age_of (get s f.1) ≡ Some f.0 = at_age s m f index ordered (All-contains_itself m.entries j (d, d) later) in
      let ages : e.0 ≡ f.0 = ap (λ o. unwrap_or o e.0) (sym at_e ∙ ap (λ k. option_map age_of (get s k)) is ∙ at_f) in
      let keys_e : get_or (tree.keys m) i d ≡ e.0 = get_or-map (λ (e : ℕ × ℕ). e.0) m.entries i (d, d) d early in
      let keys_f : get_or (tree.keys m) j d ≡ f.0 = get_or-map (λ (e : ℕ × ℕ). e.0) m.entries j (d, d) d later in
      let below : get_or (tree.keys m) i d < get_or (tree.keys m) j d = below_from_sorted (tree.keys m) i j d ordered lt (omega (arith, later, length-map m.entries (λ (e : ℕ × ℕ). e.0))) in
      omega (arith, below, keys_e, keys_f, ages);
  all = λ key h. by key (get s key) refl h;
}
  where
    by : (key : ℕ) (o : Option Entry) → get s key ≡ o → IsSome o → Contains (tree.values m) key
    by key None at h = absurd (both_ways false refl h)
    by key (Some e) at h = found_among (is_at (nat_cmp e.age)) m.entries key (index.has key e at)
