-- the numbers of a range that pass a test, where one more number comes
use Rattle.std.proofs.Common.{◌≡◌, ◌≤◌, ◌+◌, ◌-◌, ℕ, Bool, true, false, cond, List, [], ◌∷◌, ◌++◌, ap, ◌∙◌, arith, filter, count_by}
use Rattle.std.specs.List.{range_with_len}
use Rattle.std.proofs.lemmas.List.{append-nil}
use Rattle.std.proofs.lemmas.List.Elements.{filter-append}
use Rattle.std.proofs.lemmas.List.Sums.{sum_by-append}
use Rattle.crew_terms.specs.Ranges.{range_from}
use Rattle.crew_terms.specs.Listed.{range_more}

module _ (p : ℕ → Bool) where
  kept_more : (a n : ℕ) → filter p (range_with_len a (n + 1)) ≡ filter p (range_with_len a n) ++ filter p ((a + n) ∷ [])
  kept_more a n = ap (filter p) (range_from a n) ∙ filter-append p (range_with_len a n) ((a + n) ∷ [])

  kept_at : (a t : ℕ) → a ≤ t → filter p (range_with_len a (t + 1 - a)) ≡ filter p (range_with_len a (t - a)) ++ filter p (t ∷ [])
  kept_at a t le =
      let e : t + 1 - a ≡ t - a + 1 = omega arith in
      let f : a + (t - a) ≡ t = omega arith in
      ap (λ m. filter p (range_with_len a m)) e ∙ kept_more a (t - a) ∙ ap (λ u. filter p (range_with_len a (t - a)) ++ filter p (u ∷ [])) f

  one : (t : ℕ) → p t ≡ true → filter p (t ∷ []) ≡ t ∷ []
  one t e = ap (λ b. cond b (t ∷ []) []) e

  none : (t : ℕ) → p t ≡ false → filter p (t ∷ []) ≡ []
  none t e = ap (λ b. cond b (t ∷ []) []) e

  -- the number passes
  pub kept_yes : (a t : ℕ) → a ≤ t → p t ≡ true → filter p (range_with_len a (t + 1 - a)) ≡ filter p (range_with_len a (t - a)) ++ t ∷ []
  kept_yes a t le e = kept_at a t le ∙ ap (λ xs. filter p (range_with_len a (t - a)) ++ xs) (one t e)

  -- it does not
  pub kept_no : (a t : ℕ) → a ≤ t → p t ≡ false → filter p (range_with_len a (t + 1 - a)) ≡ filter p (range_with_len a (t - a))
  kept_no a t le e = kept_at a t le ∙ ap (λ xs. filter p (range_with_len a (t - a)) ++ xs) (none t e) ∙ append-nil (filter p (range_with_len a (t - a)))

  counted : (n m : ℕ) → count_by p (n ∷ []) ≡ m → count_by p (range_with_len 0 (n + 1)) ≡ count_by p (range_with_len 0 n) + m
  counted n m e = ap (count_by p) (range_more n) ∙ sum_by-append (λ x. cond (p x) 1 0) (range_with_len 0 n) (n ∷ []) ∙ ap (λ x. count_by p (range_with_len 0 n) + x) e

  -- so it is counted
  pub counted_yes : (n : ℕ) → p n ≡ true → count_by p (range_with_len 0 (n + 1)) ≡ count_by p (range_with_len 0 n) + 1
  counted_yes n e = counted n 1 (ap (λ b. 0 + cond b 1 0) e)

  -- or not
  pub counted_no : (n : ℕ) → p n ≡ false → count_by p (range_with_len 0 (n + 1)) ≡ count_by p (range_with_len 0 n)
  counted_no n e = counted n 0 (ap (λ b. 0 + cond b 1 0) e) ∙ omega arith
