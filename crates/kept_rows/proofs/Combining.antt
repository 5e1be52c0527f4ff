-- a step of a combination
use Rattle.std.proofs.Common.{◌≡◌, ◌≢◌, ◌<◌, ◌≤◌, ◌+◌, ℕ, ℤ, pos, ◌-ℤ◌, ◌*ℤ◌, length, set, arith, ap, ◌∙◌, refl, length-set, get_or-set_same, get_or-set_other, below_more}
use Rattle.search_terms.specs.Rows.{Row, number}
use Rattle.kept_rows.specs.Replaced.{IsCombined}

-- the first i numbers are combined, and the others are as they were
pub record IsCombinedTo (p e : ℤ) (pivot old row : Row) (i : ℕ) : Type 0 where
  pub width : length row ≡ length old
  pub done : (k : ℕ) → k < i → number row k ≡ (p *ℤ number old k) -ℤ (e *ℤ number pivot k)
  pub rest : (k : ℕ) → i ≤ k → number row k ≡ number old k

pub combined_none : (p e : ℤ) (pivot old : Row) → IsCombinedTo p e pivot old old 0
combined_none p e pivot old = record { width = refl; done = λ k lt. absurd (omega arith); rest = λ k le. refl }

pub combined_more : (p e : ℤ) (pivot old row : Row) (i : ℕ) (z : ℤ) → i < length row → IsCombinedTo p e pivot old row i
    → z ≡ (p *ℤ number row i) -ℤ (e *ℤ number pivot i) → IsCombinedTo p e pivot old (set row i z) (i + 1)
combined_more p e pivot old row i z below h is = record {
  width = length-set row i z ∙ h.width;
  done = below_more (λ k. number (set row i z) k ≡ (p *ℤ number old k) -ℤ (e *ℤ number pivot k)) i
      (λ k lt. let ne : k ≢ i = omega arith in get_or-set_other row i k z (pos 0) ne ∙ h.done k lt)
      (get_or-set_same row i z (pos 0) below ∙ is ∙ ap (λ y. (p *ℤ y) -ℤ (e *ℤ number pivot i)) (h.rest i (omega arith)));
  rest = λ k le. let ne : k ≢ i = omega arith in get_or-set_other row i k z (pos 0) ne ∙ h.rest k (omega arith);
}

pub combined_all : (p e : ℤ) (pivot old row : Row) (i : ℕ) → length old ≤ i → IsCombinedTo p e pivot old row i → IsCombined p e pivot old row
combined_all p e pivot old row i le h = record { width = h.width; each = λ j lt. h.done j (omega arith) }
