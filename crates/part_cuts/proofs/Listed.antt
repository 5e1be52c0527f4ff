-- rising lists of the numbers of which a fact holds, gathered in turn
use Rattle.std.proofs.Common.{◌≡◌, ◌≤◌, ◌<◌, ◌+◌, ◌++◌, ◌∷◌, [], ◌⊎◌, inl, inr, ℕ, List, length, get_or, arith, subst}
use Rattle.std.specs.Prelude.{Contains}
use Rattle.std.specs.List.Sorted.{IsStrictlyIncreasing}
use Rattle.std.proofs.Math.ListN.{get_or-append}
use Rattle.std.proofs.lemmas.Bool.{cases_lt}
use Rattle.std.proofs.lemmas.List.{get_or_push, length-append}
use Rattle.std.proofs.lemmas.List.Elements.{Contains-get_or, Contains-append_left, Contains-push, Contains-push_cases}
use Rattle.crew_terms.specs.Minutes.{IsListOf}

module _ (P : ℕ → Type 0) where
  -- the numbers below k of which the fact holds
  abbrev pub AreBelow : ℕ → List ℕ → Type 0
  AreBelow k xs = IsListOf (λ h. (h < k) × P h) xs

  pub below_none : AreBelow 0 []
  below_none = record { rising = λ k l. absurd (omega arith); each = λ h. (λ c. absurd (let l = c.1 in omega arith), λ a. absurd (let l = a.0 in omega arith)) }

  pub below_yes : (k : ℕ) (xs : List ℕ) → AreBelow k xs → P k → AreBelow (k + 1) (xs ++ k ∷ [])
  below_yes k xs are here = record { rising = rising; each = λ h. (λ c. from h (Contains-push_cases xs k h c), λ a. to h a (cases_lt h k)) }
    where
      long : length (xs ++ k ∷ []) ≡ length xs + 1
      long = length-append xs (k ∷ [])

      last : (j : ℕ) → j + 1 < length xs + 1 → get_or xs j 0 < k
      last j l = ((are.each (get_or xs j 0)).0 (Contains-get_or xs j 0 (omega arith))).0

      rising : IsStrictlyIncreasing (xs ++ k ∷ [])
      rising j l = by (cases_lt (j + 1) (length xs))
        where
          front : get_or (xs ++ k ∷ []) j 0 ≡ get_or xs j 0
          front = get_or-append xs (k ∷ []) 0 j (let m = long in omega arith)

          by : (j + 1 < length xs) ⊎ (length xs ≤ j + 1) → get_or (xs ++ k ∷ []) j 0 < get_or (xs ++ k ∷ []) (j + 1) 0
          by (inl m) = let a = get_or-append xs (k ∷ []) 0 (j + 1) m in let b = are.rising j m in let c = front in omega arith
          by (inr m) =
              let a = get_or_push xs k 0 (j + 1) (let n = long in omega arith) in
              let b = last j (let n = long in omega arith) in
              let c = front in
              omega arith

      from : (h : ℕ) → Contains xs h ⊎ (k ≡ h) → (h < k + 1) × P h
      from h (inl c) = let a = (are.each h).0 c in let l = a.0 in (omega arith, a.1)
      from h (inr e) = (omega arith, subst P e here)

      to : (h : ℕ) → (h < k + 1) × P h → (h < k) ⊎ (k ≤ h) → Contains (xs ++ k ∷ []) h
      to h a (inl l) = Contains-append_left xs (k ∷ []) h ((are.each h).1 (l, a.1))
      to h a (inr l) = let m = a.0 in let e : k ≡ h = omega arith in subst (Contains (xs ++ k ∷ [])) e (Contains-push xs k)

  pub below_no : (k : ℕ) (xs : List ℕ) → AreBelow k xs → (P k → ⊥) → AreBelow (k + 1) xs
  below_no k xs are none = record { rising = are.rising; each = λ h. (λ c. let a = (are.each h).0 c in let l = a.0 in (omega arith, a.1), λ a. to h a (cases_lt h k)) }
    where
      to : (h : ℕ) → (h < k + 1) × P h → (h < k) ⊎ (k ≤ h) → Contains xs h
      to h a (inl l) = (are.each h).1 (l, a.1)
      to h a (inr l) = let m = a.0 in let e : h ≡ k = omega arith in absurd (none (subst P e a.1))

-- the numbers below n
pub below_all : (P : ℕ → Type 0) (n m : ℕ) (xs : List ℕ) → m ≡ n → AreBelow P m xs → IsListOf (λ h. (h < n) × P h) xs
below_all P n m xs e are = subst (λ k. AreBelow P k xs) e are
