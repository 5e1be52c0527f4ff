-- where a variable has a negative reduced cost, some row bounds it
use Rattle.std.proofs.Common.{◌≡◌, ◌≢◌, ◌<◌, ℕ, suc, zero, List, [], ◌∷◌, ◌++◌, length, get_or, ap, sym, arith, ◌∙◌, ◌⊎◌, inl, inr, true, false, cond, map, flat_map, filter, not}
use Rattle.std.specs.Prelude.{ℤ, pos, ◌+ℤ◌, ◌-ℤ◌, ◌*ℤ◌, ◌≤ℤ◌, ◌<ℤ◌}
use Rattle.std.proofs.Math.Dec.{eqb}
use Rattle.std.proofs.lemmas.Bool.{cases_eq}
use Rattle.std.proofs.lemmas.Bool.Decides.{eqb_tells}
use Rattle.std.proofs.lemmas.Int.{ints, by_lt_z}
use Rattle.std.proofs.Math.IntN.{*ℤ_comm, zero-*ℤ}
use Rattle.crew_terms.specs.Limits.{Limits, tasks_in, teams_in, has_required}
use Rattle.crew_terms.specs.Total.{total}
use Rattle.search_terms.specs.declared.Place.{Place}
use Rattle.search_terms.specs.declared.Place.TheVariants.{Right, Unused, Unassigned, Shortage, Excess, Missed, Repeated}
use Rattle.search_terms.specs.Rows.{Rows, number, row_of, basic_of, last, IsSolution, AreBasic}
use Rattle.search_terms.specs.Opening.{required_pairs, variables, places, place_at, cost}
use Rattle.search_terms.specs.Pivot.{IsImproving, IsBounding}
use Rattle.crew_num.specs.Ring.{minus_times, assoc, swap, positive, not_negative}
use Rattle.crew_terms.specs.Totals.{total-one, total-front}
use Rattle.master_laws.proofs.Entering.{spread_at, spike, spike-same, spike-other, product_plus, product_spread, product_spike}
use Rattle.master_laws.proofs.Costs.{IsCosted}
use Rattle.search_terms.specs.declared.TheConstants.{VALUE}
use Rattle.master_laws.proofs.Below.{below}

-- ---- no variable but the value costs less than nothing
abbrev NoneNegative : List Place → Type 0
NoneNegative [] = Unit {0}
NoneNegative (p ∷ ps) = (pos 0 ≤ℤ cost p) × NoneNegative ps

none-append : (ps qs : List Place) → NoneNegative ps → NoneNegative qs → NoneNegative (ps ++ qs)
none-append [] qs a b = b
none-append (p ∷ ps) qs a b = (a.0, none-append ps qs a.1 b)

none-map : {A : Type 0} (f : A → Place) (xs : List A) → ((x : A) → pos 0 ≤ℤ cost (f x)) → NoneNegative (map f xs)
none-map f [] h = tt
none-map f (x ∷ xs) h = (h x, none-map f xs h)

none-flat : {A : Type 0} (f : A → List Place) (xs : List A) → ((x : A) → NoneNegative (f x)) → NoneNegative (flat_map f xs)
none-flat f [] h = tt
none-flat f (x ∷ xs) h = none-append (f x) (flat_map f xs) (h x) (none-flat f xs h)

none_at : (ps : List Place) → NoneNegative ps → (k : ℕ) → pos 0 ≤ℤ cost (get_or ps k Right)
none_at [] h k = omega (arith, ints)
none_at (p ∷ ps) h zero = h.0
none_at (p ∷ ps) h (suc k) = none_at ps h.1 k

none_negative : (n : Limits) → NoneNegative (variables n)
none_negative n =
    let ks = below (teams_in n) in
    let js = below (tasks_in n) in
    let free = filter (λ j. not (has_required n j)) js in
    let qs = required_pairs n in
    let two : ℕ → List Place = λ j. Shortage j ∷ Excess j ∷ [] in
    let both : ℕ × ℕ → List Place = λ q. Missed q.0 q.1 ∷ Repeated q.0 q.1 ∷ [] in
    let a = map Unused ks in
    let b = map Unassigned free in
    let c = flat_map two js in
    none-append (a ++ b ++ c) (flat_map both qs)
    (none-append (a ++ b) c
    (none-append a b (none-map Unused ks (λ k. omega (arith, ints))) (none-map Unassigned free (λ k. omega (arith, ints))))
    (none-flat two js (λ j. let p : NoneNegative (two j) = (omega (arith, ints), (omega (arith, ints), tt)) in p)))
    (none-flat both qs (λ q. let p : NoneNegative (both q) = (omega (arith, ints), (omega (arith, ints), tt)) in p))

one_times : (z : ℤ) → pos 1 *ℤ z ≡ z
one_times z = omega (arith, ints)

pub total-not_negative : (n : ℕ) (f : ℕ → ℤ) → ((i : ℕ) → i < n → pos 0 ≤ℤ f i) → pos 0 ≤ℤ total n f
total-not_negative zero f h = omega (arith, ints)
total-not_negative (suc n) f h =
    let a = total-not_negative n f (λ i below. h i (omega arith)) in
    let b = h n (omega arith) in
    omega (arith, ints)

-- a vector of which no variable is negative has a value that isn't
pub value_not_negative : (n : Limits) (t : Rows) (x : ℕ → ℤ) → IsCosted n t → IsSolution t x → ((j : ℕ) → VALUE < j → pos 0 ≤ℤ x j) → pos 0 ≤ℤ x VALUE
value_not_negative n t x c s h =
    let f : ℕ → ℤ = λ j. cost (place_at (places n) j) *ℤ x j in
    let l = length (variables n) in
    let a = total-front (suc l) f in
    let b = total-front l (λ i. f (suc i)) in
    let rest = total-not_negative l (λ i. f (suc (suc i))) (λ i below.
    not_negative (cost (place_at (places n) (suc (suc i)))) (x (suc (suc i))) (none_at (variables n) (none_negative n) i) (h (suc (suc i)) (omega arith))) in
    let z = c.zero_sum x s in
    let zero : pos 0 *ℤ x 0 ≡ pos 0 = zero-*ℤ (x 0) in
    let one = minus_times (pos 1) (x 1) in
    let unit = one_times (x 1) in
    let e : total (suc (suc l)) f ≡ pos 0 = z in
    omega (arith, ints)

-- ---- the product of numbers, and that of the others
abbrev pub times_all : ℕ → (ℕ → ℤ) → ℤ
times_all zero e = pos 1
times_all (suc n) e = times_all n e *ℤ e n

pub all_positive : (n : ℕ) (e : ℕ → ℤ) → ((h : ℕ) → h < n → pos 0 <ℤ e h) → pos 0 <ℤ times_all n e
all_positive zero e p = omega (arith, ints)
all_positive (suc n) e p = positive (times_all n e) (e n) (all_positive n e (λ h below. p h (omega arith))) (p n (omega arith))

pub record Cofactors (n : ℕ) (e : ℕ → ℤ) : Type 0 where
  pub others : ℕ → ℤ
  pub whole : (h : ℕ) → h < n → e h *ℤ others h ≡ times_all n e
  pub up : (h : ℕ) → h < n → pos 0 <ℤ others h

pub cofactors : (n : ℕ) (e : ℕ → ℤ) → ((h : ℕ) → h < n → pos 0 <ℤ e h) → Cofactors n e
cofactors zero e p = record { others = λ h. pos 1; whole = λ h below. absurd (omega arith); up = λ h below. absurd (omega arith) }
cofactors (suc n) e p =
    let c = cofactors n e (λ h below. p h (omega arith)) in
    let one = all_positive n e (λ h below. p h (omega arith)) in
    record {
      others = λ h. cond (eqb h n) (times_all n e) (c.others h *ℤ e n);
      whole = λ h below. whole_by c h (eqb_tells h n) below;
      up = λ h below. up_by c one h (eqb_tells h n) below;
    }
  where
    whole_by : (c : Cofactors n e) (h : ℕ) → ((eqb h n ≡ true) × (h ≡ n)) ⊎ ((eqb h n ≡ false) × (h ≢ n)) → h < suc n
        → e h *ℤ cond (eqb h n) (times_all n e) (c.others h *ℤ e n) ≡ times_all n e *ℤ e n
    whole_by c h (inl q) below = rw q.0 (ap (λ k. e k *ℤ times_all n e) q.1 ∙ *ℤ_comm (e n) (times_all n e))
    whole_by c h (inr q) below = rw q.0 (sym (assoc (e h) (c.others h) (e n)) ∙ ap (λ z. z *ℤ e n) (c.whole h (omega (arith, q.1))))

    up_by : (c : Cofactors n e) → pos 0 <ℤ times_all n e → (h : ℕ) → ((eqb h n ≡ true) × (h ≡ n)) ⊎ ((eqb h n ≡ false) × (h ≢ n)) → h < suc n
        → pos 0 <ℤ cond (eqb h n) (times_all n e) (c.others h *ℤ e n)
    up_by c one h (inl q) below = rw q.0 one
    up_by c one h (inr q) below = rw q.0 (positive (c.others h) (e n) (c.up h (omega (arith, q.1))) (p n (omega arith)))

pub spike_up : (k : ℕ) (a : ℤ) (j : ℕ) → (k ≡ j → pos 0 ≤ℤ a) → pos 0 ≤ℤ spike k a j
spike_up k a j h = by_case (eqb_tells k j)
  where
    by_case : ((eqb k j ≡ true) × (k ≡ j)) ⊎ ((eqb k j ≡ false) × (k ≢ j)) → pos 0 ≤ℤ spike k a j
    by_case (inl q) = rw q.0 (h q.1)
    by_case (inr q) = rw q.0 (omega (arith, ints))

-- only the value's row has its basic variable below the others
pub before_last : (t : Rows) → AreBasic t → (h j : ℕ) → h < length t.rows → basic_of t h ≡ j → VALUE < j → h < last t
before_last t b h j below same above = by_case (cases_eq h (last t))
  where
    by_case : (h ≡ last t) ⊎ (h ≢ last t) → h < last t
    by_case (inl q) = let f = ap (basic_of t) q in absurd (omega (arith, b.value, same, above))
    by_case (inr q) = omega arith

-- ---- the vector that grows with the variable at place v
record Ray (t : Rows) (v : ℕ) : Type 0 where
  x : ℕ → ℤ
  solves : IsSolution t x
  variables : (j : ℕ) → VALUE < j → pos 0 ≤ℤ x j
  value : x VALUE <ℤ pos 0

ray : (t : Rows) (v : ℕ) → AreBasic t → IsImproving t v → ((h : ℕ) → h < last t → number (row_of t h) v ≤ℤ pos 0) → Ray t v
ray t v b i none =
    let m = length t.rows in
    let e : ℕ → ℤ = λ h. number (row_of t h) (basic_of t h) in
    let c = cofactors m e b.positive in
    let p = times_all m e in
    let up = all_positive m e b.positive in
    let y : ℕ → ℤ = λ h. (pos 0 -ℤ number (row_of t h) v) *ℤ c.others h in
    let s : ℕ → ℤ = spread_at m (basic_of t) y in
    let x : ℕ → ℤ = λ j. s j +ℤ spike v p j in
    let end : last t < m = omega (arith, b.some) in
    record {
      x = x;
      solves = λ h below.
          let row = row_of t h in
          let in_v : v < length row = omega (arith, i.known, b.widths h below) in
          let d = product_plus row s (spike v p) in
          let f = product_spread row m (basic_of t) y (λ k lt. omega (arith, b.known k lt, b.widths h below)) in
          let g = total-one m (λ k. number row (basic_of t k) *ℤ y k) h below
          (λ k lt ne. ap (λ z. z *ℤ y k) (b.alone k h lt below ne) ∙ zero-*ℤ (y k)) in
          let q = product_spike row v p in_v in
          let r = swap (e h) (pos 0 -ℤ number row v) (c.others h) in
          let u = ap (λ z. (pos 0 -ℤ number row v) *ℤ z) (c.whole h below) in
          let w = minus_times (number row v) p in
          omega (arith, ints);
      variables = λ j above.
          let f = total-not_negative m (λ h. spike (basic_of t h) (y h) j) (λ h below.
          spike_up (basic_of t h) (y h) j (λ same.
          let before : h < last t = before_last t b h j below same above in
          let z : pos 0 ≤ℤ c.others h = omega (arith, ints, c.up h below) in
          let w : pos 0 ≤ℤ (pos 0 -ℤ number (row_of t h) v) = omega (arith, ints, none h before) in
          not_negative (pos 0 -ℤ number (row_of t h) v) (c.others h) w z)) in
          let g = spike_up v p j (λ same. let z : pos 0 ≤ℤ p = omega (arith, ints) in z) in
          omega (arith, ints);
      value =
          let f = total-one m (λ h. spike (basic_of t h) (y h) VALUE) (last t) end
          (λ h below ne. spike-other (basic_of t h) (y h) VALUE (let before : h < last t = omega (arith, b.some) in let above = b.others h before in omega arith)) in
          let at = ap (λ k. spike k (y (last t)) VALUE) b.value ∙ spike-same VALUE (y (last t)) in
          let g = spike-other v p VALUE (let above = i.variable in omega arith) in
          let w = minus_times (number (row_of t (last t)) v) (c.others (last t)) in
          let z = positive (number (row_of t (last t)) v) (c.others (last t)) i.positive (c.up (last t) end) in
          omega (arith, ints);
    }

-- where the reduced cost of a variable is negative, it isn't so that no row bounds it
pub some_row_bounds : (n : Limits) (t : Rows) (v : ℕ) → AreBasic t → IsCosted n t → IsImproving t v → ((h : ℕ) → IsBounding t v h → ⊥) → ⊥
some_row_bounds n t v b c i idle =
    let r = ray t v b i (λ h below. by_lt_z (pos 0) (number (row_of t h) v) (λ q. absurd (idle h (record { known = below; positive = q }))) (λ q. q)) in
    let up = value_not_negative n t r.x c r.solves r.variables in
    let down = r.value in
    absurd (omega (arith, ints))
