-- rising lists of numbers: those that pass, and that one within another is no longer
use Rattle.std.proofs.Common.{◌≡◌, ◌≤◌, ◌<◌, ◌+◌, ◌-◌, ◌∷◌, [], ◌⊎◌, inl, inr, ℕ, zero, suc, Bool, true, false, List, length, get_or, arith, refl, sym, subst, ap, ◌∙◌}
use Rattle.std.specs.Prelude.{Contains, AllPairs}
use Rattle.std.specs.List.{filter, range_with_len}
use Rattle.std.specs.List.Sorted.{IsStrictlyIncreasing}
use Rattle.std.proofs.lemmas.Bool.{cases_lt, cases_order}
use Rattle.std.proofs.lemmas.List.{get_or_default}
use Rattle.std.proofs.lemmas.List.Elements.{Contains-get_or}
use Rattle.std.proofs.lemmas.List.FromFn.{length-range_with_len, get_or-range_with_len}
use Rattle.std.proofs.lemmas.List.Kept.{AllPairs-filter, AllPairs-from_increasing}

module _ (test : ℕ → Bool) where
  later : (x : ℕ) (xs : List ℕ) (y : ℕ) → Contains xs y → Contains (x ∷ xs) y
  later x xs y (k, l, is) = (suc k, omega arith, is)

  cases : (x : ℕ) (xs : List ℕ) (y : ℕ) → Contains (x ∷ xs) y → (x ≡ y) ⊎ Contains xs y
  cases x xs y (zero, l, is) = inl is
  cases x xs y (suc k, l, is) = inr (k, omega arith, is)

  -- what passes is one of the list
  pub passing_from : (xs : List ℕ) (y : ℕ) → Contains (filter test xs) y → Contains xs y × (test y ≡ true)
  passing_from [] y (k, l, is) = absurd (omega arith)
  passing_from (x ∷ xs) y c = by (test x) refl (passing_from xs y)
    where
      by : (b : Bool) → test x ≡ b → (Contains (filter test xs) y → Contains xs y × (test y ≡ true)) → Contains (x ∷ xs) y × (test y ≡ true)
      by true e more =
          elim (cases x (filter test xs) y (rw e at c)) [
            | inl same ↦ ((zero, omega arith, same), subst (λ z. test z ≡ true) same e)
            | inr d ↦ let m = more d in (later x xs y m.0, m.1)
          ]
      by false e more = let m = more (rw e at c) in (later x xs y m.0, m.1)

  pub passing_to : (xs : List ℕ) (y : ℕ) → Contains xs y → test y ≡ true → Contains (filter test xs) y
  passing_to [] y (k, l, is) t = absurd (omega arith)
  passing_to (x ∷ xs) y c t = by (test x) refl (λ d. passing_to xs y d t) (cases x xs y c)
    where
      by : (b : Bool) → test x ≡ b → (Contains xs y → Contains (filter test xs) y) → (x ≡ y) ⊎ Contains xs y → Contains (filter test (x ∷ xs)) y
      by true e more (inl same) = rw e (zero, omega arith, same)
      by true e more (inr d) = rw e (later x (filter test xs) y (more d))
      by false e more (inl same) = let f : test x ≡ true = subst (λ z. test z ≡ true) (sym same) t in absurd (let g : true ≡ false = sym f ∙ e in cc)
      by false e more (inr d) = rw e (more d)

  numbers_rise : (a n : ℕ) → AllPairs (λ x y. x < y) (range_with_len a n)
  numbers_rise a n = λ i j d order within.
      let last : j < n = subst (λ l. j < l) (length-range_with_len a n) within in
      let p = get_or-range_with_len a n i d (omega arith) in
      let q = get_or-range_with_len a n j d last in
      omega arith

  -- those of numbers in a row that pass rise
  pub passing_rise : (a n : ℕ) → IsStrictlyIncreasing (filter test (range_with_len a n))
  passing_rise a n = λ j l. AllPairs-filter (λ x y. x < y) test (range_with_len a n) (numbers_rise a n) j (j + 1) 0 (omega arith) l

pub numbers_from : (a n x : ℕ) → Contains (range_with_len a n) x → (a ≤ x) × (x < a + n)
numbers_from a n x (k, l, is) =
    let below : k < n = subst (λ m. k < m) (length-range_with_len a n) l in
    let e : a + k ≡ x = sym (get_or-range_with_len a n k x below) ∙ is in
    (omega arith, omega arith)

pub numbers_to : (a n x : ℕ) → a ≤ x → x < a + n → Contains (range_with_len a n) x
numbers_to a n x from to =
    let below : x - a < n = omega arith in
    let e : a + (x - a) ≡ x = omega arith in
    (x - a, subst (λ m. x - a < m) (sym (length-range_with_len a n)) below, get_or-range_with_len a n (x - a) x below ∙ e)

module _ (xs ys : List ℕ) (rising : IsStrictlyIncreasing xs) (other : IsStrictlyIncreasing ys) (each : (y : ℕ) → Contains ys y → Contains xs y) where
  -- where a number of the second list stands in the first
  in_first : (a : ℕ) → a < length ys → Contains xs (get_or ys a 0)
  in_first a l = each (get_or ys a 0) (Contains-get_or ys a 0 l)

  index : (a : ℕ) → a < length ys → ℕ
  index a l = (in_first a l).0

  index_below : (a : ℕ) (l : a < length ys) → index a l < length xs
  unfolding index
  index_below a l = (in_first a l).1

  index_is : (a : ℕ) (l : a < length ys) → get_or xs (index a l) 0 ≡ get_or ys a 0
  unfolding index
  index_is a l = get_or_default xs (in_first a l).0 0 (get_or ys a 0) (in_first a l).1 ∙ (in_first a l).2

  up : (zs : List ℕ) → IsStrictlyIncreasing zs → (a b : ℕ) → a < b → b < length zs → get_or zs a 0 < get_or zs b 0
  up zs r a b l m = AllPairs-from_increasing zs r a b 0 l m

  index_up : (a b : ℕ) (l : a < length ys) (m : b < length ys) → a < b → index a l < index b m
  index_up a b l m n = by (cases_order (index a l) (index b m))
    where
      grows : get_or ys a 0 < get_or ys b 0
      grows = up ys other a b n m

      by : (index a l ≡ index b m) ⊎ ((index a l < index b m) ⊎ (index b m < index a l)) → index a l < index b m
      by (inl e) =
          let f : get_or xs (index a l) 0 ≡ get_or xs (index b m) 0 = ap (λ z. get_or xs z 0) e in
          let g = grows in let p = index_is a l in let q = index_is b m in
          absurd (omega arith)
      by (inr (inl o)) = o
      by (inr (inr o)) =
          let f = up xs rising (index b m) (index a l) o (index_below a l) in
          let g = grows in let p = index_is a l in let q = index_is b m in
          absurd (omega arith)

  index_far : (a : ℕ) (l : a < length ys) → a ≤ index a l
  index_far zero l = omega arith
  index_far (suc a) l =
      let m : a < length ys = omega arith in
      let far = index_far a m in
      let more = index_up a (suc a) m l (omega arith) in
      omega arith

  -- a rising list within another is no longer
  pub no_longer : length ys ≤ length xs
  no_longer = by (cases_lt 0 (length ys))
    where
      by : (0 < length ys) ⊎ (length ys ≤ 0) → length ys ≤ length xs
      by (inl l) =
          let m : length ys - 1 < length ys = omega arith in
          let far = index_far (length ys - 1) m in
          let below = index_below (length ys - 1) m in
          omega arith
      by (inr l) = omega arith
