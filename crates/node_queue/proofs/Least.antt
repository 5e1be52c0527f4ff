-- the oldest of those of least bound
use Rattle.std.proofs.Common.{◌≡◌, ◌<◌, ◌≤◌, ◌⊎◌, inl, inr, ℕ, suc, Bool, true, false, cond, List, [], ◌∷◌, get_or, Option, None, Some, refl, ap, sym, subst, arith}
use Rattle.std.specs.Prelude.{ℤ, ◌≤ℤ◌, ◌<ℤ◌, All, Contains, is_some}
use Rattle.std.specs.BTreeMap as tree
use Rattle.std.specs.BTreeMap.{is_at}
use Rattle.std.specs.Cmp.{int_ranks}
use Rattle.std.specs.List.Sorted.{IsStrictlySortedBy}
use Rattle.std.specs.Map.{keys_of, lookup, values_of}
use Rattle.std.specs.Option.{option_map, unwrap_or}
use Rattle.std.specs.Ordering.{int_cmp, is_gt, nat_cmp}
use Rattle.std.proofs.lemmas.Bool.{both_ways}
use Rattle.std.proofs.lemmas.Cmp.{by_ranked}
use Rattle.std.proofs.lemmas.Int.{ints}
use Rattle.std.proofs.lemmas.List.{length-map}
use Rattle.std.proofs.lemmas.List.Elements.{All-cons, All-contains_itself, All-map, All-nil}
use Rattle.std.proofs.lemmas.Map.Keys.{below_from_sorted, le_from_not_gt, sorted_tail}
use Rattle.std.proofs.lemmas.Map.Lookups.{exact_unsigned}
use Rattle.std.proofs.lemmas.Map.Views.{Contains-keys_from_lookup, tells_apart}
use Rattle.slab.specs.Slab.{Slab, get}
use Rattle.node_queue.specs.declared.Entry.{Entry}
use Rattle.node_queue.specs.declared.Waiting.{Waiting}
use Rattle.node_queue.specs.declared.Queue.TheInside.{Inside}
use Rattle.node_queue.specs.Kept.{IsKept, Rank, age_of, rank_cmp, rank_of, waiting_or, waits, waits_in}
use Rattle.node_queue.specs.Waits.{IsLeast, Waits}
use Rattle.node_queue.proofs.Ages.{at_age, ranks_tell}

abbrev pub above : ℤ → (ℕ × Waiting) → Type 0
above bound e = bound <ℤ e.1.bound

abbrev pub not_below : ℤ → (ℕ × Waiting) → Type 0
not_below bound e = bound ≤ℤ e.1.bound

-- a rank that is not after another has the less bound, or the same and no greater age
rank_le : (b c : ℤ) (m n : ℕ) → is_gt (rank_cmp (b, m) (c, n)) ≡ false → (b <ℤ c) ⊎ ((b ≡ c) × (m ≤ n))
rank_le b c m n le =
    by_ranked (b <ℤ c) (b ≡ c) (c <ℤ b) (int_cmp b c) (int_ranks b c)
    (λ is lt. inl lt)
    (λ is same. inr (same, le_from_not_gt m n (rw is at le)))
    (λ is gt. absurd (both_ways true (rw is at le) refl))

pub record IsLeastAt (q : Waits) (key : ℕ) (bound : ℤ) : Type 0 where
  pub is : IsLeast q key
  pub its : is.waiting.bound ≡ bound

-- among the keys by age, the one whose rank is after no other's
least_in : (s : Slab Entry) (es : List (ℕ × ℕ)) (age key : ℕ) (bound : ℤ) → IsStrictlySortedBy nat_cmp (keys_of es) → lookup (is_at (nat_cmp age)) es ≡ Some key
    → (waiting_or (get s key)).bound ≡ bound → All (λ (e : ℕ × ℕ). is_gt (rank_cmp (bound, age) ((waiting_or (get s e.1)).bound, e.0)) ≡ false) es
    → IsLeastAt (waits_in s (values_of es)) key bound
least_in s [] age key bound sorted is its after = absurd (both_ways false refl (ap is_some is))
least_in s (e ∷ es) age key bound sorted is its after =
    by (is_at (nat_cmp age) e.0) refl is (λ later. least_in s es age key bound (sorted_tail nat_cmp e.0 (keys_of es) sorted) later its rest)
  where
    rest : All (λ (e : ℕ × ℕ). is_gt (rank_cmp (bound, age) ((waiting_or (get s e.1)).bound, e.0)) ≡ false) es
    rest k d within = after (suc k) d (omega (arith, within))

    le_of : (f : ℕ × ℕ) → is_gt (rank_cmp (bound, age) ((waiting_or (get s f.1)).bound, f.0)) ≡ false → not_below bound (f.1, waiting_or (get s f.1))
    le_of f le = elim (rank_le bound (waiting_or (get s f.1)).bound age f.0 le) [ inl lt ↦ omega (arith, ints) | inr same ↦ let h = same.0 in omega (arith, ints) ]

    by : (b : Bool) → is_at (nat_cmp age) e.0 ≡ b → cond b (Some e.1) (lookup (is_at (nat_cmp age)) es) ≡ Some key
        → (lookup (is_at (nat_cmp age)) es ≡ Some key → IsLeastAt (waits_in s (values_of es)) key bound) → IsLeastAt (waits_in s (values_of (e ∷ es))) key bound
    by true hit is later =
        let same : e.1 ≡ key = ap (λ o. unwrap_or o e.1) is in
        let those : All (λ (f : ℕ × ℕ). not_below bound (f.1, waiting_or (get s f.1))) es = λ k d within. le_of (get_or es k d) (rest k d within) in
        let keys : All (λ (k : ℕ). not_below bound (k, waiting_or (get s k))) (values_of es) = All-map (λ (k : ℕ). not_below bound (k, waiting_or (get s k))) (λ (f : ℕ × ℕ). f.1) es those in
        let younger : All (not_below bound) (waits_in s (values_of es)) = All-map (not_below bound) (λ (k : ℕ). (k, waiting_or (get s k))) (values_of es) keys in
        record {
          is = record {
            older = [];
            waiting = waiting_or (get s key);
            younger = waits_in s (values_of es);
            stands = ap (λ k. (k, waiting_or (get s k)) ∷ waits_in s (values_of es)) same;
            below_older = All-nil (above (waiting_or (get s key)).bound);
            not_above_younger = subst (λ b. All (not_below b) (waits_in s (values_of es))) (sym its) younger;
          };
          its = its;
        }
    by false miss is later =
        let least = later is in
        let c : Contains (keys_of es) age = Contains-keys_from_lookup (tells_apart exact_unsigned) age es (ap is_some is) in
        let earlier : e.0 < age = omega (arith, c.2, below_from_sorted (keys_of (e ∷ es)) 0 (suc c.0) age sorted (omega arith) (omega (arith, c.1))) in
        let first : above bound (e.1, waiting_or (get s e.1)) =
        elim (rank_le bound (waiting_or (get s e.1)).bound age e.0 (after 0 e (omega arith))) [ inl lt ↦ lt | inr same ↦ absurd (omega (arith, earlier, same.1)) ] in
        record {
          is = record {
            older = (e.1, waiting_or (get s e.1)) ∷ least.is.older;
            waiting = least.is.waiting;
            younger = least.is.younger;
            stands = ap (λ q. (e.1, waiting_or (get s e.1)) ∷ q) least.is.stands;
            below_older = All-cons (above least.is.waiting.bound) (e.1, waiting_or (get s e.1)) least.is.older (subst (λ b. above b (e.1, waiting_or (get s e.1))) (sym least.its) first) least.is.below_older;
            not_above_younger = least.is.not_above_younger;
          };
          its = least.its;
        }

-- the key of the first rank is that of the oldest of least bound
pub least_first : (a : Inside) (rank : Rank) (key : ℕ) → IsKept a → tree.get rank_cmp a.order rank ≡ Some key → tree.IsLowerBound rank_cmp a.order rank → IsLeast (waits a) key
least_first a rank key kept first lower = by (get a.entries key) refl (kept.by_rank.all rank key first)
  where
    after : (f : ℕ × ℕ) → Contains a.ages.entries f → (o : Option Entry) → get a.entries f.1 ≡ o → option_map age_of o ≡ Some f.0 → is_gt (rank_cmp rank ((waiting_or o).bound, f.0)) ≡ false
    after f among None at is = absurd (both_ways false refl (ap is_some is))
    after f among (Some g) at is =
        let same : g.age ≡ f.0 = ap (λ o. unwrap_or o g.age) is in
        subst (λ n. is_gt (rank_cmp rank (g.waiting.bound, n)) ≡ false) same (lower (g.waiting.bound, g.age) (ap is_some (kept.by_rank.has f.1 g at)))

    by : (o : Option Entry) → get a.entries key ≡ o → option_map rank_of o ≡ Some rank → IsLeast (waits a) key
    by None at is = absurd (both_ways false refl (ap is_some is))
    by (Some e) at is =
        let same : (e.waiting.bound, e.age) ≡ rank = ap (λ o. unwrap_or o rank) is in
        let those : All (λ (f : ℕ × ℕ). is_gt (rank_cmp (e.waiting.bound, e.age) ((waiting_or (get a.entries f.1)).bound, f.0)) ≡ false) a.ages.entries = λ k d within.
        let f : ℕ × ℕ = get_or a.ages.entries k d in
        let among : Contains a.ages.entries f = All-contains_itself a.ages.entries k d within in
        subst (λ r. is_gt (rank_cmp r ((waiting_or (get a.entries f.1)).bound, f.0)) ≡ false) (sym same) (after f among (get a.entries f.1) refl (at_age a.entries a.ages f kept.by_age kept.ordered among)) in
        (least_in a.entries a.ages.entries e.age key e.waiting.bound kept.ordered (kept.by_age.has key e at) (ap (λ o. (waiting_or o).bound) at) those).is

-- where no rank has a key, nothing waits
pub none_first : (a : Inside) → IsKept a → (0 < tree.btree_map_len a.order → ⊥) → waits a ≡ []
none_first a kept none = by a.ages.entries refl
  where
    by : (es : List (ℕ × ℕ)) → a.ages.entries ≡ es → waits_in a.entries (values_of es) ≡ []
    by [] is = refl
    by (f ∷ es) is = absurd (has (get a.entries f.1) refl (at_age a.entries a.ages f kept.by_age kept.ordered (subst (λ es. Contains es f) (sym is) (0, omega arith, refl))))
      where
        has : (o : Option Entry) → get a.entries f.1 ≡ o → option_map age_of o ≡ Some f.0 → ⊥
        has None at its = both_ways false refl (ap is_some its)
        has (Some g) at its =
            let c = Contains-keys_from_lookup (tells_apart ranks_tell) (rank_of g) a.order.entries (ap is_some (kept.by_rank.has f.1 g at)) in
            none (omega (arith, c.1, length-map a.order.entries (λ (e : Rank × ℕ). e.0)))
