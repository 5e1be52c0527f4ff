-- the least of a list, and the first element that has it, where one more element comes
use Rattle.std.proofs.Common.{◌≡◌, ◌≢◌, ℕ, zero, suc, Bool, true, false, cond, List, [], ◌∷◌, ◌++◌, length, get_or, refl, ap, sym, subst, ◌∙◌, arith, ◌⊎◌, inl, inr, Option, None, Some, map, fold, find, int_lt}
use Rattle.std.specs.Prelude.{ℤ, ◌≤ℤ◌, ◌<ℤ◌, Contains}
use Rattle.std.specs.Int.{int_min}
use Rattle.std.specs.Ordering.{int_eq}
use Rattle.std.proofs.lemmas.Bool.{cases_Bool, both_ways}
use Rattle.std.proofs.lemmas.Bool.Decides.{Decides-int_eq}
use Rattle.std.proofs.lemmas.Int.{ints, clamps}
use Rattle.std.proofs.lemmas.List.{map-append}
use Rattle.std.proofs.lemmas.List.Sums.{fold-append}

-- ---- the first that passes

module _ (p : ℕ → Bool) where
  -- none of the list passes, and the one behind it does
  pub find_last : (ts : List ℕ) (t : ℕ) → ((u : ℕ) → Contains ts u → p u ≡ false) → p t ≡ true → find p (ts ++ t ∷ []) ≡ Some t
  find_last [] t none e = rw e refl
  find_last (u ∷ ts) t none e = rw (none u (0, omega arith, refl)) (find_last ts t (λ v (k, l, f). none v (suc k, omega arith, f)) e)

  -- one of the list passes
  pub find_kept : (ts : List ℕ) (t v : ℕ) → Contains ts v → p v ≡ true → find p (ts ++ t ∷ []) ≡ find p ts
  find_kept [] t v (k, l, f) e = absurd (omega arith)
  find_kept (u ∷ ts) t v (zero, l, f) e = let g : p u ≡ true = ap p f ∙ e in rw g refl
  find_kept (u ∷ ts) t v (suc k, l, f) e = ap (λ o. cond (p u) (Some u) o) (find_kept ts t v (k, omega arith, f) e)

-- ---- the least

module _ (f : ℕ → ℤ) where
  abbrev pub least_from : ℤ → List ℕ → ℤ
  least_from d ts = fold int_min d (map f ts)

  pub least_more : (d : ℤ) (ts : List ℕ) (t : ℕ) → least_from d (ts ++ t ∷ []) ≡ int_min (least_from d ts) (f t)
  least_more d ts t = ap (fold int_min d) (map-append f ts (t ∷ [])) ∙ fold-append int_min d (map f ts) (f t ∷ [])

  pub least_below : (d : ℤ) (ts : List ℕ) → least_from d ts ≤ℤ d
  least_below d [] = omega (arith, ints)
  least_below d (t ∷ ts) = let a = least_below (int_min d (f t)) ts in omega (arith, ints, clamps)

  pub least_each : (d : ℤ) (ts : List ℕ) (u : ℕ) → Contains ts u → least_from d ts ≤ℤ f u
  least_each d [] u (k, l, e) = absurd (omega arith)
  least_each d (t ∷ ts) u (zero, l, e) =
      let a = least_below (int_min d (f t)) ts in
      let b : least_from (int_min d (f t)) ts ≤ℤ f t = omega (arith, ints, clamps) in
      subst (λ (x : ℕ). least_from (int_min d (f t)) ts ≤ℤ f x) e b
  least_each d (t ∷ ts) u (suc k, l, e) = least_each (int_min d (f t)) ts u (k, omega arith, e)

  -- it is the number that it is taken from, or that of an element
  pub least_is : (d : ℤ) (ts : List ℕ) → (least_from d ts ≡ d) ⊎ ((u : ℕ) × Contains ts u × (f u ≡ least_from d ts))
  least_is d [] = inl refl
  least_is d (t ∷ ts) = by (least_is (int_min d (f t)) ts) (cases_Bool (int_lt (f t) d))
    where
      by : (least_from (int_min d (f t)) ts ≡ int_min d (f t)) ⊎ ((u : ℕ) × Contains ts u × (f u ≡ least_from (int_min d (f t)) ts))
          → (int_lt (f t) d ≡ true) ⊎ (int_lt (f t) d ≡ false)
          → (least_from d (t ∷ ts) ≡ d) ⊎ ((u : ℕ) × Contains (t ∷ ts) u × (f u ≡ least_from d (t ∷ ts)))
      by (inl e) (inl b) = inr (t, (0, omega arith, refl), sym (e ∙ ap (λ x. cond x (f t) d) b))
      by (inl e) (inr b) = inl (e ∙ ap (λ x. cond x (f t) d) b)
      by (inr (u, (k, l, g), h)) b = inr (u, (suc k, omega arith, g), h)

  -- the first element that has the least, where that is below the number that it is taken from
  abbrev pub first_least : ℤ → List ℕ → Option ℕ
  first_least d ts = cond (int_lt (least_from d ts) d) (find (λ u. int_eq (f u) (least_from d ts)) ts) None

  -- one that is below the least
  pub lower : (d : ℤ) (ts : List ℕ) (t : ℕ) → f t <ℤ least_from d ts → (least_from d (ts ++ t ∷ []) ≡ f t) × (first_least d (ts ++ t ∷ []) ≡ Some t)
  lower d ts t below = (is, subst (λ v. cond (int_lt v d) (find (λ u. int_eq (f u) v) (ts ++ t ∷ [])) None ≡ Some t) (sym is) found)
    where
      is : least_from d (ts ++ t ∷ []) ≡ f t
      is = least_more d ts t ∙ least_of (cases_Bool (int_lt (f t) (least_from d ts)))
        where
          least_of : (int_lt (f t) (least_from d ts) ≡ true) ⊎ (int_lt (f t) (least_from d ts) ≡ false) → int_min (least_from d ts) (f t) ≡ f t
          least_of (inl e) = rw e refl
          least_of (inr e) = absurd (omega (arith, ints))

      others : (u : ℕ) → Contains ts u → int_eq (f u) (f t) ≡ false
      others u c = at (cases_Bool (int_eq (f u) (f t)))
        where
          at : (int_eq (f u) (f t) ≡ true) ⊎ (int_eq (f u) (f t) ≡ false) → int_eq (f u) (f t) ≡ false
          at (inl e) = let g : f u ≡ f t = (Decides-int_eq (f u) (f t)).0 e in let h = least_each d ts u c in absurd (omega (arith, ints))
          at (inr e) = e

      found : cond (int_lt (f t) d) (find (λ u. int_eq (f u) (f t)) (ts ++ t ∷ [])) None ≡ Some t
      found = by (cases_Bool (int_lt (f t) d))
        where
          by : (int_lt (f t) d ≡ true) ⊎ (int_lt (f t) d ≡ false) → cond (int_lt (f t) d) (find (λ u. int_eq (f u) (f t)) (ts ++ t ∷ [])) None ≡ Some t
          by (inl e) = rw e (find_last (λ u. int_eq (f u) (f t)) ts t others ((Decides-int_eq (f t) (f t)).1 refl))
          by (inr e) = let a = least_below d ts in absurd (omega (arith, ints))

  -- one that is not
  pub not_lower : (d : ℤ) (ts : List ℕ) (t : ℕ) → least_from d ts ≤ℤ f t
      → (least_from d (ts ++ t ∷ []) ≡ least_from d ts) × (first_least d (ts ++ t ∷ []) ≡ first_least d ts)
  not_lower d ts t above = (is, subst (λ v. cond (int_lt v d) (find (λ u. int_eq (f u) v) (ts ++ t ∷ [])) None ≡ first_least d ts) (sym is) found)
    where
      is : least_from d (ts ++ t ∷ []) ≡ least_from d ts
      is = least_more d ts t ∙ least_of (cases_Bool (int_lt (f t) (least_from d ts)))
        where
          least_of : (int_lt (f t) (least_from d ts) ≡ true) ⊎ (int_lt (f t) (least_from d ts) ≡ false) → int_min (least_from d ts) (f t) ≡ least_from d ts
          least_of (inl e) = absurd (omega (arith, ints))
          least_of (inr e) = rw e refl

      found : cond (int_lt (least_from d ts) d) (find (λ u. int_eq (f u) (least_from d ts)) (ts ++ t ∷ [])) None ≡ first_least d ts
      found = by (cases_Bool (int_lt (least_from d ts) d)) (least_is d ts)
        where
          by : (int_lt (least_from d ts) d ≡ true) ⊎ (int_lt (least_from d ts) d ≡ false) → (least_from d ts ≡ d) ⊎ ((u : ℕ) × Contains ts u × (f u ≡ least_from d ts))
              → cond (int_lt (least_from d ts) d) (find (λ u. int_eq (f u) (least_from d ts)) (ts ++ t ∷ [])) None ≡ first_least d ts
          by (inr e) is = rw e refl
          by (inl e) (inl same) = absurd (omega (arith, ints))
          by (inl e) (inr (u, c, same)) =
              ap (λ o. cond (int_lt (least_from d ts) d) o None) (find_kept (λ v. int_eq (f v) (least_from d ts)) ts t u c ((Decides-int_eq (f u) (least_from d ts)).1 same))
