-- quotients rounded down, and cut off
use Rattle.std.proofs.Common.{◌≡◌, ◌<◌, ◌≤◌, ◌^◌, ◌∙◌, ◌⊎◌, inl, inr, ℕ, ap, sym, subst, arith, to_z, of_z}
use Rattle.std.specs.Prelude.{ℤ, pos, negsuc, neg_ℤ, ◌+ℤ◌, ◌-ℤ◌, ◌*ℤ◌, ◌≤ℤ◌, ◌<ℤ◌, FitsSigned}
use Rattle.std.specs.Int.{int_div_euclid, int_max, int_min, w64, w128}
use Rattle.std.proofs.lemmas.Bool.{cases_lt}
use Rattle.std.proofs.lemmas.Int.{int_max_is, int_min_is, ints, to_z-of_z}
use Rattle.std.proofs.Math.IntN.{*ℤ_comm}
use Rattle.crew_num.specs.Ratios.{IsFloor}
use Rattle.crew_terms.specs.declared.TheConstants.{D, MOST_PRICE}
use Rattle.search_terms.specs.Earned.{rounded}
use Rattle.crew_num.specs.Quotients.{at_most, division, rest_below, rest_low}
use Rattle.crew_num.specs.Ring.{cancel_positive, not_negative, scale_diff}

-- the floor is the quotient
floor_is : (floor n : ℤ) (d : ℕ) → 0 < d → IsFloor floor n (pos d) → floor ≡ int_div_euclid n (pos d)
floor_is floor n d some is =
    let q = int_div_euclid n (pos d) in
    let up : pos 0 <ℤ pos d = omega (arith, ints) in
    let e = division n d some in
    let low = rest_low n d some in
    let high = rest_below n d some in
    let next = times_next floor (pos d) in
    let a = at_most floor q (pos d) up (let h = is.not_above in omega (arith, ints)) in
    let b = at_most q floor (pos d) up (let h = is.next_above in omega (arith, ints)) in
    omega (arith, ints)
  where
    times_next : (q d : ℤ) → (q +ℤ pos 1) *ℤ d ≡ (q *ℤ d) +ℤ d
    times_next q d =
        let e = *ℤ_comm (q +ℤ pos 1) d in
        let f = *ℤ_comm q d in
        let g = scale_diff d (q +ℤ pos 1) q in
        let h : (q +ℤ pos 1) -ℤ q ≡ pos 1 = omega (arith, ints) in
        let i = ap (λ z. d *ℤ z) h in
        let j : d *ℤ pos 1 ≡ d = omega (arith, ints) in
        omega (arith, ints)

-- cut off at the greatest price
abbrev cut : ℤ → ℤ
cut q = int_max (neg_ℤ (pos MOST_PRICE)) (int_min (pos MOST_PRICE) q)

cut_low : (q : ℤ) → q ≤ℤ neg_ℤ (pos MOST_PRICE) → neg_ℤ (pos MOST_PRICE) ≡ cut q
cut_low q h =
    let a = int_min_is (pos MOST_PRICE) q in
    let b = int_max_is (neg_ℤ (pos MOST_PRICE)) (int_min (pos MOST_PRICE) q) in
    omega (arith, ints)

cut_high : (q : ℤ) → pos MOST_PRICE ≤ℤ q → pos MOST_PRICE ≡ cut q
cut_high q h =
    let a = int_min_is (pos MOST_PRICE) q in
    let b = int_max_is (neg_ℤ (pos MOST_PRICE)) (int_min (pos MOST_PRICE) q) in
    omega (arith, ints)

-- the same, in the code's order
cut_turned : (q m x : ℤ) → m ≡ int_min q (pos MOST_PRICE) → x ≡ int_max m (neg_ℤ (pos MOST_PRICE)) → x ≡ cut q
cut_turned q m x em ex =
    let a = int_min_is (pos MOST_PRICE) q in
    let b = int_max_is (neg_ℤ (pos MOST_PRICE)) (int_min (pos MOST_PRICE) q) in
    let c = int_min_is q (pos MOST_PRICE) in
    let d = int_max_is m (neg_ℤ (pos MOST_PRICE)) in
    omega (arith, ints)

cut_within : (q : ℤ) → (neg_ℤ (pos MOST_PRICE) ≤ℤ cut q) × (cut q ≤ℤ pos MOST_PRICE)
cut_within q =
    let a = int_min_is (pos MOST_PRICE) q in
    let b = int_max_is (neg_ℤ (pos MOST_PRICE)) (int_min (pos MOST_PRICE) q) in
    (omega (arith, ints), omega (arith, ints))

pub rounded_floor : (num den floor : ℤ) → pos 0 <ℤ den → IsFloor floor (num *ℤ pos D) den → cut floor ≡ rounded num den
rounded_floor num (pos d) floor up is = ap cut (floor_is floor (num *ℤ pos D) d (omega (arith, ints)) is)
rounded_floor num (negsuc d) floor up is = absurd (omega (arith, ints))

pub rounded_low : (num den floor : ℤ) → pos 0 <ℤ den → num <ℤ pos 0 → IsFloor floor (num *ℤ pos D) den → (FitsSigned w128 floor → ⊥) → neg_ℤ (pos MOST_PRICE) ≡ rounded num den
rounded_low num den floor up low is leaves = least floor (below floor den (num *ℤ pos D) up (let a = is.not_above in a) (times_low num low)) leaves ∙ rounded_floor num den floor up is
  where
    times_low : (num : ℤ) → num <ℤ pos 0 → (num *ℤ pos D) <ℤ pos 0
    times_low (pos n) h = absurd (omega (arith, ints))
    times_low (negsuc n) h = omega (arith, ints)

    below : (f d n : ℤ) → pos 0 <ℤ d → (f *ℤ d) ≤ℤ n → n <ℤ pos 0 → f <ℤ pos 0
    below (pos f) d n up h l = let s = not_negative (pos f) d (omega (arith, ints)) (omega (arith, ints)) in absurd (omega (arith, ints))
    below (negsuc f) d n up h l = omega (arith, ints)

    least : (f : ℤ) → f <ℤ pos 0 → (FitsSigned w128 f → ⊥) → neg_ℤ (pos MOST_PRICE) ≡ cut f
    least (pos f) h out = absurd (omega (arith, ints))
    least (negsuc f) h out = by_case (cases_lt f (2 ^ 127))
      where
        by_case : (f < 2 ^ 127) ⊎ (2 ^ 127 ≤ f) → neg_ℤ (pos MOST_PRICE) ≡ cut (negsuc f)
        by_case (inl lt) = absurd (out (omega (arith, ints)))
        by_case (inr le) = cut_low (negsuc f) (omega (arith, ints))

pub rounded_high : (num den floor : ℤ) → pos 0 <ℤ den → pos 0 ≤ℤ num → IsFloor floor (num *ℤ pos D) den → (FitsSigned w128 floor → ⊥) → pos MOST_PRICE ≡ rounded num den
rounded_high num den floor up low is leaves =
    greatest floor (above floor den (num *ℤ pos D) up (let a = is.next_above in a) (not_negative num (pos D) low (omega (arith, ints)))) leaves ∙ rounded_floor num den floor up is
  where
    above : (f d n : ℤ) → pos 0 <ℤ d → n <ℤ ((f +ℤ pos 1) *ℤ d) → pos 0 ≤ℤ n → pos 0 ≤ℤ f
    above f d n up h l =
        let c = *ℤ_comm (f +ℤ pos 1) d in
        let s : pos 0 <ℤ (d *ℤ (f +ℤ pos 1)) = omega (arith, ints) in
        let p = cancel_positive d (f +ℤ pos 1) up s in
        omega (arith, ints)

    greatest : (f : ℤ) → pos 0 ≤ℤ f → (FitsSigned w128 f → ⊥) → pos MOST_PRICE ≡ cut f
    greatest (negsuc f) h out = absurd (omega (arith, ints))
    greatest (pos f) h out = by_case (cases_lt f (2 ^ 127))
      where
        by_case : (f < 2 ^ 127) ⊎ (2 ^ 127 ≤ f) → pos MOST_PRICE ≡ cut (pos f)
        by_case (inl lt) = absurd (out (omega (arith, ints)))
        by_case (inr le) = cut_high (pos f) (omega (arith, ints))

-- in the code's numbers
pub rounded_code : (num den floor m x : ℤ) → pos 0 <ℤ den → IsFloor floor (num *ℤ pos D) den → m ≡ int_min floor (pos MOST_PRICE) → x ≡ int_max m (neg_ℤ (pos MOST_PRICE))
    → to_z w64 (of_z w64 (to_z w128 (of_z w128 x))) ≡ rounded num den
rounded_code num den floor m x up is em ex =
    let e = cut_turned floor m x em ex in
    let w = cut_within floor in
    let low : neg_ℤ (pos MOST_PRICE) ≤ℤ x = subst (λ z. neg_ℤ (pos MOST_PRICE) ≤ℤ z) (sym e) w.0 in
    let high : x ≤ℤ pos MOST_PRICE = subst (λ z. z ≤ℤ pos MOST_PRICE) (sym e) w.1 in
    let fx : FitsSigned w128 x = omega (arith, ints) in
    let fy : FitsSigned w64 x = omega (arith, ints) in
    ap (λ z. to_z w64 (of_z w64 z)) (to_z-of_z w128 x fx) ∙ to_z-of_z w64 x fy ∙ e ∙ rounded_floor num den floor up is
