-- laws of tests of the numbers below another
use Rattle.std.proofs.Common.{◌≡◌, ◌≤◌, ◌<◌, ℕ, zero, suc, Bool, true, false, refl, ap, ◌∙◌, arith, ◌⊎◌, inl, inr}
use Rattle.std.proofs.lemmas.Bool.{cases_lt, cases_Bool, both_ways, or_from, or_left, or_right}
use Rattle.crew_terms.specs.Limits.{any_below}

-- some number below n passes the test, or none does
pub find_below : (n : ℕ) (b : ℕ → Bool) → ((i : ℕ) × (i < n) × (b i ≡ true)) ⊎ ((i : ℕ) → i < n → b i ≡ false)
find_below zero b = inr (λ i h. absurd (omega arith))
find_below (suc n) b = by (find_below n b) (cases_Bool (b n))
  where
    by : ((i : ℕ) × (i < n) × (b i ≡ true)) ⊎ ((i : ℕ) → i < n → b i ≡ false) → (b n ≡ true) ⊎ (b n ≡ false) → ((i : ℕ) × (i < suc n) × (b i ≡ true)) ⊎ ((i : ℕ) → i < suc n → b i ≡ false)
    by (inl x) last = inl (x.0, omega arith, x.2)
    by (inr none) (inl last) = inl (n, omega arith, last)
    by (inr none) (inr last) = inr (λ i h. at i (cases_lt i n) h)
      where
        at : (i : ℕ) → (i < n) ⊎ (n ≤ i) → i < suc n → b i ≡ false
        at i (inl lt) h = none i lt
        at i (inr ge) h = let e : i ≡ n = omega arith in ap b e ∙ last

-- where none passes the test fails
pub any_below-none : (n : ℕ) (b : ℕ → Bool) → ((k : ℕ) → k < n → b k ≡ false) → any_below n b ≡ false
any_below-none zero b h = refl
any_below-none (suc n) b h = or_from (any_below n b) (b n) (any_below-none n b (λ k l. h k (omega arith))) (h n (omega arith))

-- one that passes is enough
pub any_below-some : (n : ℕ) (p : ℕ → Bool) (k : ℕ) → k < n → p k ≡ true → any_below n p ≡ true
any_below-some zero p k l e = absurd (omega arith)
any_below-some (suc n) p k l e = at (cases_lt k n) (any_below-some n p k)
  where
    at : (k < n) ⊎ (n ≤ k) → (k < n → p k ≡ true → any_below n p ≡ true) → any_below (suc n) p ≡ true
    at (inl m) ih = or_left (any_below n p) (p n) (ih m e)
    at (inr m) ih = let f : n ≡ k = omega arith in or_right (any_below n p) (p n) (ap p f ∙ e)

-- where the test holds, one passes
pub some_below : (n : ℕ) (b : ℕ → Bool) → any_below n b ≡ true → (i : ℕ) × (i < n) × (b i ≡ true)
some_below n b e = elim (find_below n b) [ inl some ↦ some | inr none ↦ absurd (both_ways (any_below n b) (any_below-none n b none) e) ]
