-- floors of scaled ratios
use Rattle.std.proofs.Common.{◌≡◌, ◌<◌, ◌+◌, ◌*◌, ℕ, zero, suc, refl, ap, ◌∙◌, arith}
use Rattle.std.specs.Prelude.{ℤ, pos, negsuc, ◌+ℤ◌, ◌*ℤ◌, ◌≤ℤ◌, ◌<ℤ◌, unsigned_abs, FitsSigned}
use Rattle.std.specs.Int.{int_div_euclid, int_rem_euclid, w128}
use Rattle.std.proofs.lemmas.Int.{ints}
use Rattle.crew_num.specs.Ring.{sum_times}
use Rattle.crew_num.specs.Quotients.{division}
use Rattle.crew_num.proofs.Products.{times_swap}
use Rattle.crew_num.specs.declared.exact.Op.TheVariants.{Mul}
use Rattle.crew_num.specs.Exact.{fault}
use Rattle.crew_num.specs.Ratios.{IsFloor, IsFloorOverflow}

next : (f d : ℕ) → (negsuc (suc f) +ℤ pos 1) *ℤ pos (suc d) ≡ negsuc f *ℤ pos (suc d)
next f d = let e : negsuc (suc f) +ℤ pos 1 ≡ negsuc f = omega (arith, ints) in ap (λ z. z *ℤ pos (suc d)) e

-- the floor by the quotient, and what the rest adds to it
pub scaled : (num whole : ℤ) (rest den scale part last : ℕ) → (whole *ℤ pos den) +ℤ pos rest ≡ num
    → part * den + last ≡ rest * scale → last < den → IsFloor ((whole *ℤ pos scale) +ℤ pos part) (num *ℤ pos scale) (pos den)
scaled num whole rest den scale part last e f l =
    let product = ap (λ z. z *ℤ pos scale) e in
    let a = sum_times (whole *ℤ pos den) (pos rest) (pos scale) in
    let b = times_swap whole (pos den) (pos scale) in
    let c = sum_times (whole *ℤ pos scale) (pos part) (pos den) in
    let d = sum_times ((whole *ℤ pos scale) +ℤ pos part) (pos 1) (pos den) in
    record { not_above = omega (arith, ints); next_above = omega (arith, ints) }

-- the same, as the code has these numbers
pub scaled_floor : (num den scale whole rest : ℤ) (part last : ℕ) → pos 0 <ℤ den → pos 0 ≤ℤ scale → pos 0 ≤ℤ rest
    → whole ≡ int_div_euclid num den → rest ≡ int_rem_euclid num den
    → part * unsigned_abs den + last ≡ unsigned_abs rest * unsigned_abs scale → last < unsigned_abs den
    → IsFloor ((whole *ℤ scale) +ℤ pos part) (num *ℤ scale) den
scaled_floor num (pos den) (pos scale) whole (pos rest) part last d s r e f g l =
    scaled num whole rest den scale part last (ap (λ z. (z *ℤ pos den) +ℤ pos rest) e ∙ ap (λ z. (int_div_euclid num (pos den) *ℤ pos den) +ℤ z) f ∙ division num den (omega (arith, ints))) g l
scaled_floor num (pos den) (pos scale) whole (negsuc rest) part last d s r e f g l = absurd (omega (arith, ints))
scaled_floor num (pos den) (negsuc scale) whole rest part last d s r e f g l = absurd (omega (arith, ints))
scaled_floor num (negsuc den) scale whole rest part last d s r e f g l = absurd (omega (arith, ints))

-- the floor lies in i128 where the number does
pub in_range : (floor n : ℤ) (d : ℤ) → pos 0 <ℤ d → IsFloor floor n d → FitsSigned w128 n → FitsSigned w128 floor
in_range floor n (negsuc d) h is fits = absurd (omega (arith, ints))
in_range floor n (pos zero) h is fits = absurd (omega (arith, ints))
in_range (pos f) (pos n) (pos (suc d)) h is fits = let a = is.not_above in let b = fits.sfits in record { sfits = omega (arith, ints) }
in_range (pos f) (negsuc n) (pos (suc d)) h is fits = let a = is.not_above in absurd (omega (arith, ints))
in_range (negsuc zero) n (pos (suc d)) h is fits = record { sfits = omega arith }
in_range (negsuc (suc f)) (pos n) (pos (suc d)) h is fits = let a = is.next_above in let b = next f d in absurd (omega (arith, ints))
in_range (negsuc (suc f)) (negsuc n) (pos (suc d)) h is fits = let a = is.next_above in let b = next f d in let c = fits.sfits in record { sfits = omega (arith, ints) }

-- a floor that leaves i128 is refused with its product, which leaves it too
pub refused : (num den scale floor : ℤ) → pos 0 <ℤ den → IsFloor floor (num *ℤ scale) den → (FitsSigned w128 floor → ⊥) → IsFloorOverflow num den scale (fault Mul num scale)
refused num den scale floor d is leaves = record {
  is = refl;
  product_leaves = λ fits. leaves (in_range floor (num *ℤ scale) den d is fits);
  floor = floor;
  is_floor = is;
  floor_leaves = leaves;
}
