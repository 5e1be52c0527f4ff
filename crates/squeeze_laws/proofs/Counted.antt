-- what passes a test, counted and added up
use Rattle.std.proofs.Common.{◌≡◌, ◌+◌, ℕ, suc, Bool, true, false, cond, List, [], ◌∷◌, length, get_or, ap, sym, ◌∙◌, arith}
use Rattle.std.specs.Prelude.{ℤ, pos, ◌+ℤ◌, ◌*ℤ◌, count_by}
use Rattle.std.proofs.Math.IntN.{suc_ℤ-*ℤ, zero-*ℤ}
use Rattle.std.proofs.lemmas.Int.{ints}
use Rattle.std.proofs.lemmas.List.Sums.{sum_by-cons}
use Rattle.crew_terms.specs.Total.{total}
use Rattle.crew_terms.specs.Totals.{total-front}

module _ {A : Type 0} (p : A → Bool) (d : A) (c : ℤ) where
  one_more : (b : Bool) (m : ℕ) → cond b c (pos 0) +ℤ (pos m *ℤ c) ≡ pos (cond b (suc m) m) *ℤ c
  one_more true m = let s = suc_ℤ-*ℤ (pos m) c in omega (arith, ints)
  one_more false m = omega (arith, ints)

  added : (b : Bool) (m : ℕ) → cond b 1 0 + m ≡ cond b (suc m) m
  added true m = omega arith
  added false m = omega arith

  -- a number for each that passes adds up to that number times their count
  pub total-count : (xs : List A) → total (length xs) (λ j. cond (p (get_or xs j d)) c (pos 0)) ≡ pos (count_by p xs) *ℤ c
  total-count [] = sym (zero-*ℤ c)
  total-count (x ∷ xs) =
      total-front (length xs) (λ j. cond (p (get_or (x ∷ xs) j d)) c (pos 0))
      ∙ ap (λ v. cond (p x) c (pos 0) +ℤ v) (total-count xs)
      ∙ one_more (p x) (count_by p xs)
      ∙ ap (λ m. pos m *ℤ c) (sym (sum_by-cons (λ y. cond (p y) 1 0) x xs ∙ added (p x) (count_by p xs)))
