-- the greatest common factor of the first numbers of a row
use Rattle.std.proofs.Common.{◌≡◌, ◌<◌, ◌≤◌, ◌+◌, ℕ, zero, suc, ℤ, pos, negsuc, int_div, int_rem, ◌*ℤ◌, length, arith, ap, ◌∙◌, subst, below_more, unsigned_abs, set, get_or-set_same, get_or-set_other, ◌≢◌}
use Rattle.std.specs.Int.{◌∣◌, IsGcd}
use Rattle.std.proofs.lemmas.Nat.Gcd.{dvd_antisymm, dvd_trans, dvd-zero, mod-eq-zero_of_dvd}
use Rattle.std.proofs.Math.Nat.{dvd-mul_right}
use Rattle.std.proofs.Math.IntN.{*ℤ_comm, neg_ℤ}
use Rattle.std.proofs.lemmas.Int.{ints, quot-rem}
use Rattle.search_terms.specs.Rows.{Row, number}
use Rattle.kept_rows.specs.Replacement.{IsDivided, IsFactor}
use Rattle.kept_rows.specs.Factor.{IsCovered}

-- of the first numbers, and of the number start
pub record IsFactorTo (row : Row) (start i g : ℕ) : Type 0 where
  pub divides : (k : ℕ) → k < i → g ∣ unsigned_abs (number row k)
  pub of_start : g ∣ start
  pub greatest : (d : ℕ) → d ∣ start → ((k : ℕ) → k < i → d ∣ unsigned_abs (number row k)) → d ∣ g

pub factor_none : (row : Row) (start : ℕ) → IsFactorTo row start 0 start
factor_none row start = record { divides = λ k h. absurd (omega arith); of_start = itself start; greatest = λ d s h. s }
  where
    itself : (n : ℕ) → n ∣ n
    itself n = subst (λ k. n ∣ k) (omega arith) (dvd-mul_right n 1)

pub factor_more : (row : Row) (start i g n : ℕ) → IsFactorTo row start i g → IsGcd g (unsigned_abs (number row i)) n → IsFactorTo row start (i + 1) n
factor_more row start i g n h e = record {
  divides = below_more (λ k. n ∣ unsigned_abs (number row k)) i (λ k below. dvd_trans n e.0 (h.divides k below)) e.1;
  of_start = dvd_trans n e.0 h.of_start;
  greatest = λ d s each. e.2 d (h.greatest d s (λ k below. each k (omega arith))) (each i (omega arith));
}

one_divides : (a : ℕ) → 1 ∣ a
one_divides a = subst (λ k. 1 ∣ k) (omega arith) (dvd-mul_right 1 a)

pub factor_one : (row : Row) (start i : ℕ) → i ≤ length row → IsFactorTo row start i 1 → IsCovered row start → IsFactor row 1
factor_one row start i le h covered = record {
  divides = λ k below. one_divides (unsigned_abs (number row k));
  greatest = λ d each. h.greatest d (covered d each) (λ k below. each k (omega arith));
}

pub factor_all : (row : Row) (start g : ℕ) → IsFactorTo row start (length row) g → IsCovered row start → IsFactor row g
factor_all row start g h covered = record { divides = h.divides; greatest = λ d each. h.greatest d (covered d each) each }

-- what divides a positive number is positive, and not greater
pub divisor_some : (g n : ℕ) → g ∣ n → 0 < n → 0 < g
divisor_some zero n d some = let e = dvd_antisymm d (dvd-zero n) in absurd (omega arith)
divisor_some (suc g) n d some = omega arith

pub exact_quotient : (a : ℤ) (g : ℕ) → g ∣ unsigned_abs a → pos g *ℤ int_div a (pos g) ≡ a
exact_quotient a g d =
    let e = quot-rem a (pos g) in
    let f = no_rest a d in
    let h = *ℤ_comm (int_div a (pos g)) (pos g) in
    omega (arith, ints)
  where
    no_rest : (a : ℤ) → g ∣ unsigned_abs a → int_rem a (pos g) ≡ pos 0
    no_rest (pos n) d = ap pos (mod-eq-zero_of_dvd g d)
    no_rest (negsuc n) d = ap (λ k. neg_ℤ (pos k)) (mod-eq-zero_of_dvd g d)

-- the first i numbers are divided
pub record IsDividedTo (g : ℤ) (old row : Row) (i : ℕ) : Type 0 where
  pub done : (k : ℕ) → k < i → g *ℤ number row k ≡ number old k
  pub kept : (k : ℕ) → i ≤ k → number row k ≡ number old k

pub divided_more : (g : ℤ) (old row : Row) (i : ℕ) (z : ℤ) → i < length row → IsDividedTo g old row i → g *ℤ z ≡ number old i → IsDividedTo g old (set row i z) (i + 1)
divided_more g old row i z below h e = record {
  done = below_more (λ k. g *ℤ number (set row i z) k ≡ number old k) i
      (λ k lt. let ne : k ≢ i = omega arith in ap (λ y. g *ℤ y) (get_or-set_other row i k z (pos 0) ne) ∙ h.done k lt)
      (ap (λ y. g *ℤ y) (get_or-set_same row i z (pos 0) below) ∙ e);
  kept = λ k le. let ne : k ≢ i = omega arith in get_or-set_other row i k z (pos 0) ne ∙ h.kept k (omega arith);
}

pub divided_all : (old row : Row) (g v i : ℕ) → v ≡ g → 0 < g → IsFactor old g → length row ≡ length old → length old ≤ i → IsDividedTo (pos v) old row i → IsDivided old row
divided_all old row g v i e some is wide le h = record {
  factor = g;
  is = is;
  some = some;
  width = wide;
  each = λ j lt. subst (λ q. pos q *ℤ number row j ≡ number old j) e (h.done j (omega arith));
}
