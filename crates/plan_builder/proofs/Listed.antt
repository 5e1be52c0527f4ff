-- rising lists of numbers: how they are gathered, and that one within another is no longer
use Rattle.std.proofs.Common.{◌≡◌, ◌≤◌, ◌<◌, ◌+◌, ◌-◌, ◌++◌, ◌∷◌, [], ◌⊎◌, inl, inr, ℕ, zero, suc, List, length, get_or, arith, refl, sym, subst, ap, ◌∙◌}
use Rattle.std.specs.Prelude.{Contains}
use Rattle.std.specs.List.{remove}
use Rattle.std.specs.List.Sorted.{IsStrictlyIncreasing}
use Rattle.std.proofs.Math.ListN.{get_or-append}
use Rattle.std.proofs.lemmas.Bool.{cases_lt, cases_order}
use Rattle.std.proofs.lemmas.List.{get_or_push, get_or_default, length-append}
use Rattle.std.proofs.lemmas.List.Edits.{length-remove, get_or-remove_below, get_or-remove_above}
use Rattle.std.proofs.lemmas.List.Elements.{Contains-get_or, Contains-append_left, Contains-push, Contains-push_cases}
use Rattle.std.proofs.lemmas.List.Kept.{AllPairs-from_increasing}
use Rattle.crew_terms.specs.Minutes.{IsListOf}
use Rattle.plan_builder.specs.Schedules.{IsChoiceOf}

module _ (P : ℕ → Type 0) where
  -- the numbers below k of which the fact holds
  abbrev pub AreBelow : ℕ → List ℕ → Type 0
  AreBelow k xs = IsListOf (λ h. (h < k) × P h) xs

  pub below_none : AreBelow 0 []
  below_none = record { rising = λ k l. absurd (omega arith); each = λ h. (λ c. absurd (let l = c.1 in omega arith), λ a. absurd (let l = a.0 in omega arith)) }

  pub below_yes : (k : ℕ) (xs : List ℕ) → AreBelow k xs → P k → AreBelow (k + 1) (xs ++ k ∷ [])
  below_yes k xs are here = record { rising = rising; each = λ h. (λ c. from h (Contains-push_cases xs k h c), λ a. to h a (cases_lt h k)) }
    where
      long : length (xs ++ k ∷ []) ≡ length xs + 1
      long = length-append xs (k ∷ [])

      last : (j : ℕ) → j + 1 < length xs + 1 → get_or xs j 0 < k
      last j l = ((are.each (get_or xs j 0)).0 (Contains-get_or xs j 0 (omega arith))).0

      rising : IsStrictlyIncreasing (xs ++ k ∷ [])
      rising j l = by (cases_lt (j + 1) (length xs))
        where
          front : get_or (xs ++ k ∷ []) j 0 ≡ get_or xs j 0
          front = get_or-append xs (k ∷ []) 0 j (let m = long in omega arith)

          by : (j + 1 < length xs) ⊎ (length xs ≤ j + 1) → get_or (xs ++ k ∷ []) j 0 < get_or (xs ++ k ∷ []) (j + 1) 0
          by (inl m) = let a = get_or-append xs (k ∷ []) 0 (j + 1) m in let b = are.rising j m in let c = front in omega arith
          by (inr m) =
              let a = get_or_push xs k 0 (j + 1) (let n = long in omega arith) in
              let b = last j (let n = long in omega arith) in
              let c = front in
              omega arith

      from : (h : ℕ) → Contains xs h ⊎ (k ≡ h) → (h < k + 1) × P h
      from h (inl c) = let a = (are.each h).0 c in let l = a.0 in (omega arith, a.1)
      from h (inr e) = (omega arith, subst P e here)

      to : (h : ℕ) → (h < k + 1) × P h → (h < k) ⊎ (k ≤ h) → Contains (xs ++ k ∷ []) h
      to h a (inl l) = Contains-append_left xs (k ∷ []) h ((are.each h).1 (l, a.1))
      to h a (inr l) = let m = a.0 in let e : k ≡ h = omega arith in subst (Contains (xs ++ k ∷ [])) e (Contains-push xs k)

  pub below_no : (k : ℕ) (xs : List ℕ) → AreBelow k xs → (P k → ⊥) → AreBelow (k + 1) xs
  below_no k xs are none = record { rising = are.rising; each = λ h. (λ c. let a = (are.each h).0 c in let l = a.0 in (omega arith, a.1), λ a. to h a (cases_lt h k)) }
    where
      to : (h : ℕ) → (h < k + 1) × P h → (h < k) ⊎ (k ≤ h) → Contains xs h
      to h a (inl l) = (are.each h).1 (l, a.1)
      to h a (inr l) = let m = a.0 in let e : h ≡ k = omega arith in absurd (none (subst P e a.1))

  pub below_all : (k : ℕ) (xs : List ℕ) → ((h : ℕ) → P h → h < k) → AreBelow k xs → IsListOf P xs
  below_all k xs known are = record { rising = are.rising; each = λ h. (λ c. ((are.each h).0 c).1, λ a. (are.each h).1 (known h a, a)) }

module _ (xs ys : List ℕ) (rising : IsStrictlyIncreasing xs) (other : IsStrictlyIncreasing ys) (each : (y : ℕ) → Contains ys y → Contains xs y) where
  -- where a number of the second list stands in the first
  in_first : (a : ℕ) → a < length ys → Contains xs (get_or ys a 0)
  in_first a l = each (get_or ys a 0) (Contains-get_or ys a 0 l)

  index : (a : ℕ) → a < length ys → ℕ
  index a l = (in_first a l).0

  index_below : (a : ℕ) (l : a < length ys) → index a l < length xs
  unfolding index
  index_below a l = (in_first a l).1

  index_is : (a : ℕ) (l : a < length ys) → get_or xs (index a l) 0 ≡ get_or ys a 0
  unfolding index
  index_is a l = get_or_default xs (in_first a l).0 0 (get_or ys a 0) (in_first a l).1 ∙ (in_first a l).2

  up : (zs : List ℕ) → IsStrictlyIncreasing zs → (a b : ℕ) → a < b → b < length zs → get_or zs a 0 < get_or zs b 0
  up zs r a b l m = AllPairs-from_increasing zs r a b 0 l m

  index_up : (a b : ℕ) (l : a < length ys) (m : b < length ys) → a < b → index a l < index b m
  index_up a b l m n = by (cases_order (index a l) (index b m))
    where
      grows : get_or ys a 0 < get_or ys b 0
      grows = up ys other a b n m

      by : (index a l ≡ index b m) ⊎ ((index a l < index b m) ⊎ (index b m < index a l)) → index a l < index b m
      by (inl e) =
          let f : get_or xs (index a l) 0 ≡ get_or xs (index b m) 0 = ap (λ z. get_or xs z 0) e in
          let g = grows in let p = index_is a l in let q = index_is b m in
          absurd (omega arith)
      by (inr (inl o)) = o
      by (inr (inr o)) =
          let f = up xs rising (index b m) (index a l) o (index_below a l) in
          let g = grows in let p = index_is a l in let q = index_is b m in
          absurd (omega arith)

  index_far : (a : ℕ) (l : a < length ys) → a ≤ index a l
  index_far zero l = omega arith
  index_far (suc a) l =
      let m : a < length ys = omega arith in
      let far = index_far a m in
      let more = index_up a (suc a) m l (omega arith) in
      omega arith

  -- a rising list within another is no longer
  pub no_longer : length ys ≤ length xs
  no_longer = by (cases_lt 0 (length ys))
    where
      by : (0 < length ys) ⊎ (length ys ≤ 0) → length ys ≤ length xs
      by (inl l) =
          let m : length ys - 1 < length ys = omega arith in
          let far = index_far (length ys - 1) m in
          let below = index_below (length ys - 1) m in
          omega arith
      by (inr l) = omega arith

module _ (xs from : List ℕ) (i : ℕ) (l : i < length xs) where
  -- what stands in a list without one place
  stands : (j : ℕ) → j < length (remove xs i) → (k : ℕ) × (k < length xs) × (get_or (remove xs i) j 0 ≡ get_or xs k 0) × (((j < i) × (k ≡ j)) ⊎ ((i ≤ j) × (k ≡ j + 1)))
  stands j m = by (cases_lt j i)
    where
      by : (j < i) ⊎ (i ≤ j) → (k : ℕ) × (k < length xs) × (get_or (remove xs i) j 0 ≡ get_or xs k 0) × (((j < i) × (k ≡ j)) ⊎ ((i ≤ j) × (k ≡ j + 1)))
      by (inl n) = (j, omega arith, get_or-remove_below xs i 0 j n l, inl (n, refl))
      by (inr n) = (j + 1, (let o = length-remove xs i l in omega arith), get_or-remove_above xs i 0 j n l, inr (n, refl))

  pub choice_without : IsChoiceOf xs from → IsChoiceOf (remove xs i) from
  choice_without choice = record { rising = rising; each = λ k c. choice.each k (back k c) }
    where
      order : (j a b : ℕ) → ((j < i) × (a ≡ j)) ⊎ ((i ≤ j) × (a ≡ j + 1)) → ((j + 1 < i) × (b ≡ j + 1)) ⊎ ((i ≤ j + 1) × (b ≡ j + 1 + 1)) → a < b
      order j a b (inl x) (inl y) = let p = x.1 in let q = y.1 in omega arith
      order j a b (inl x) (inr y) = let p = x.1 in let q = y.1 in omega arith
      order j a b (inr x) (inl y) = let p = x.0 in let q = y.0 in absurd (omega arith)
      order j a b (inr x) (inr y) = let p = x.1 in let q = y.1 in omega arith

      rising : IsStrictlyIncreasing (remove xs i)
      rising j m =
          let a = stands j (omega arith) in
          let b = stands (j + 1) m in
          let more = AllPairs-from_increasing xs choice.rising a.0 b.0 0 (order j a.0 b.0 a.3 b.3) b.1 in
          let e = a.2 in
          let f = b.2 in
          omega arith

      back : (k : ℕ) → Contains (remove xs i) k → Contains xs k
      back k c =
          let a = stands c.0 c.1 in
          let e : get_or xs a.0 0 ≡ k = sym a.2 ∙ get_or_default (remove xs i) c.0 0 k c.1 ∙ c.2 in
          subst (Contains xs) e (Contains-get_or xs a.0 0 a.1)
