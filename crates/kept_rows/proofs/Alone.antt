-- a row that has 0 at the place of the pivot is its own replacement
use Rattle.std.proofs.Common.{◌≡◌, ◌<◌, ◌*◌, ◌+◌, ◌∙◌, ℕ, zero, suc, refl, ap, sym, subst, arith, length}
use Rattle.std.specs.Prelude.{ℤ, pos, negsuc, ◌*ℤ◌, ◌<ℤ◌, unsigned_abs}
use Rattle.std.specs.Int.{◌∣◌}
use Rattle.std.proofs.lemmas.Int.{ints, unsigned_abs-mul}
use Rattle.std.proofs.lemmas.Nat.Gcd.{dvd-zero}
use Rattle.std.proofs.Math.IntN.{zero-*ℤ}
use Rattle.search_terms.specs.Rows.{Row, number}
use Rattle.search_terms.specs.Pivot.{IsReplaced, cleared}
use Rattle.kept_rows.specs.Replacement.{IsLowest}
use Rattle.kept_rows.proofs.CommonFactor.{IsFactorTo, factor_none, factor_more}
use Rattle.kept_rows.specs.Multiples.{gcd_scaled, some_gcd}

-- the factor of the first numbers, and what divides their multiples divides its multiple
pub record IsScaledTo (row : Row) (i g : ℕ) : Type 0 where
  pub is : IsFactorTo row 0 i g
  pub scaled : (k d : ℕ) → ((j : ℕ) → j < i → d ∣ unsigned_abs (number row j) * k) → d ∣ g * k

pub scaled_to : (row : Row) (i : ℕ) → (g : ℕ) × IsScaledTo row i g
scaled_to row zero = (
  0,
  record {
    is = factor_none row 0;
    scaled = λ k d all. subst (λ x. d ∣ x) (omega arith) (dvd-zero d);
  },
)
scaled_to row (suc i) =
    let again = scaled_to row i in
    let more = some_gcd again.0 (unsigned_abs (number row i)) in
    let z : i + 1 ≡ suc i = omega arith in (
      more.0,
      record {
        is = subst (λ k. IsFactorTo row 0 k more.0) z (factor_more row 0 i again.0 more.0 again.1.is more.1);
        scaled = λ k d all. gcd_scaled again.0 (unsigned_abs (number row i)) more.0 k d more.1
            (again.1.scaled k d (λ j lt. all j (omega arith))) (all i (omega arith));
      },
    )

-- what divides each number's multiple divides the multiplier
lowest_scaled : (row : Row) (k d : ℕ) → IsLowest row → ((j : ℕ) → j < length row → d ∣ unsigned_abs (number row j) * k) → d ∣ k
lowest_scaled row k d low all =
    let s = scaled_to row (length row) in
    let one = low.only s.0 s.1.is.divides in
    let e : s.0 * k ≡ k = ap (λ g. g * k) one ∙ omega arith in
    subst (λ x. d ∣ x) e (s.1.scaled k d all)

cleared_is : (pivot row : Row) (v : ℕ) (p j : ℕ) → number pivot v ≡ pos p → number row v ≡ pos 0 → cleared pivot v row j ≡ pos p *ℤ number row j
cleared_is pivot row v p j e z =
    let f = ap (λ x. x *ℤ number row j) e in
    let g = ap (λ x. x *ℤ number pivot j) z ∙ zero-*ℤ (number pivot j) in
    omega (arith, ints)

pub left_alone : (pivot row : Row) (v : ℕ) → pos 0 <ℤ number pivot v → number row v ≡ pos 0 → IsLowest row → IsReplaced pivot v row row
left_alone pivot row v up z low = by_number (number pivot v) refl up
  where
    by_number : (n : ℤ) → number pivot v ≡ n → pos 0 <ℤ n → IsReplaced pivot v row row
    by_number (pos p) e some = record {
      factor = p;
      some = omega (arith, ints);
      width = refl;
      each = λ j lt. sym (cleared_is pivot row v p j e z);
      greatest = λ d all. lowest_scaled row p d low (λ j lt.
          let c = ap unsigned_abs (cleared_is pivot row v p j e z) ∙ unsigned_abs-mul (pos p) (number row j) in
          let f : p * unsigned_abs (number row j) ≡ unsigned_abs (number row j) * p = omega arith in
          subst (λ x. d ∣ x) (c ∙ f) (all j lt));
    }
    by_number (negsuc p) e some = absurd (omega (arith, ints))
