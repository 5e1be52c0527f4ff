-- a quotient that is rounded down, and lies far from the limits
use Rattle.std.proofs.Common.{◌≡◌, ◌<◌, ◌⊎◌, inl, inr, ℕ, Bool, true, false, cond, refl, ap, arith}
use Rattle.std.specs.Prelude.{ℤ, pos, negsuc, neg_ℤ, ◌+ℤ◌, ◌-ℤ◌, ◌*ℤ◌, ◌≤ℤ◌, ◌<ℤ◌, int_lt}
use Rattle.std.specs.Int.{int_div_euclid, int_rem_euclid, int_max, int_min}
use Rattle.std.proofs.lemmas.Int.{ints, clamps}
use Rattle.std.proofs.Math.IntN.{*ℤ_comm}
use Rattle.crew_terms.specs.declared.TheConstants.{D, MOST_PRICE}
use Rattle.search_terms.specs.Duals.{IsUpTo}
use Rattle.search_terms.specs.Earned.{rounded}
use Rattle.share_terms.specs.declared.TheConstants.{BIG_M}
use Rattle.crew_num.specs.Quotients.{at_most, division, rest_below, rest_low}
use Rattle.crew_num.specs.Ring.{not_negative, scale_diff, scale_sum, swap}

-- p is z/w in 1/D, rounded down
pub record IsNear (w p z : ℤ) : Type 0 where
  pub low : (w *ℤ p) ≤ℤ (pos D *ℤ z)
  pub high : (pos D *ℤ z) ≤ℤ ((w *ℤ p) +ℤ w)

uncut : (q : ℤ) → neg_ℤ (pos MOST_PRICE) ≤ℤ q → q ≤ℤ pos MOST_PRICE → int_max (neg_ℤ (pos MOST_PRICE)) (int_min (pos MOST_PRICE) q) ≡ q
uncut q a b = omega (arith, ints, clamps)

near_by : (d : ℕ) (z : ℤ) → 0 < d → IsUpTo (pos d *ℤ pos BIG_M) z → IsNear (pos d) (rounded z (pos d)) z
near_by d z some up =
    let q = int_div_euclid (z *ℤ pos D) (pos d) in
    let r = int_rem_euclid (z *ℤ pos D) (pos d) in
    let w : pos 0 <ℤ pos d = omega (arith, ints) in
    let e = division (z *ℤ pos D) d some in
    let l = rest_low (z *ℤ pos D) d some in
    let b = rest_below (z *ℤ pos D) d some in
    let u1 = up.least in
    let u2 = up.greatest in
    let high = at_most q (pos MOST_PRICE) (pos d) w (omega (arith, ints)) in
    let low = at_most (neg_ℤ (pos MOST_PRICE)) q (pos d) w (omega (arith, ints)) in
    let is = uncut q low high in
    let c = *ℤ_comm (pos d) q in
    let f = ap (λ p. pos d *ℤ p) is in
    let g = *ℤ_comm z (pos D) in
    record { low = omega (arith, ints); high = omega (arith, ints) }

pub near : (w z : ℤ) → pos 0 <ℤ w → IsUpTo (w *ℤ pos BIG_M) z → IsNear w (rounded z w) z
near (pos d) z up u = near_by d z (omega (arith, ints)) u
near (negsuc d) z up u = absurd (omega (arith, ints))

pub times_low : (c a b : ℤ) → pos 0 ≤ℤ c → a ≤ℤ b → (c *ℤ a) ≤ℤ (c *ℤ b)
times_low c a b low h =
    let d : pos 0 ≤ℤ (b -ℤ a) = omega (arith, ints) in
    let e = not_negative c (b -ℤ a) low d in
    let f = scale_diff c b a in
    omega (arith, ints)

-- so many times
near_times : (r : ℕ) (w p z : ℤ) → IsNear w p z → (pos D *ℤ (pos r *ℤ z)) ≤ℤ ((w *ℤ (pos r *ℤ p)) +ℤ (w *ℤ pos r))
near_times r w p z n =
    let a = times_low (pos r) (pos D *ℤ z) ((w *ℤ p) +ℤ w) (omega (arith, ints)) n.high in
    let b = swap (pos r) (pos D) z in
    let c = scale_sum (pos r) (w *ℤ p) w in
    let d = swap (pos r) w p in
    let e = *ℤ_comm (pos r) w in
    omega (arith, ints)

-- the term of a task
pub term_near : (required : Bool) (r : ℕ) (w p z : ℤ) → pos 0 <ℤ w → IsNear w p z
    → (pos D *ℤ cond required (pos r *ℤ z) (int_min w (pos r *ℤ z))) ≤ℤ ((w *ℤ cond required (pos r *ℤ p) (int_min (pos D) (pos r *ℤ p))) +ℤ (w *ℤ pos r))
term_near true r w p z up n = near_times r w p z n
term_near false r w p z up n = least (int_min w (pos r *ℤ z)) (int_min (pos D) (pos r *ℤ p)) (min_left w (pos r *ℤ z)) (min_right w (pos r *ℤ z)) (by_min (pos D) (pos r *ℤ p))
  where
    min_left : (a b : ℤ) → int_min a b ≤ℤ a
    min_left a b = omega (arith, ints, clamps)

    min_right : (a b : ℤ) → int_min a b ≤ℤ b
    min_right a b = omega (arith, ints, clamps)

    by_min : (a b : ℤ) → (int_min a b ≡ a) ⊎ (int_min a b ≡ b)
    by_min a b = by_test (int_lt b a)
      where
        by_test : (t : Bool) → (cond t b a ≡ a) ⊎ (cond t b a ≡ b)
        by_test true = inr refl
        by_test false = inl refl

    least : (x y : ℤ) → x ≤ℤ w → x ≤ℤ (pos r *ℤ z) → (y ≡ pos D) ⊎ (y ≡ (pos r *ℤ p)) → (pos D *ℤ x) ≤ℤ ((w *ℤ y) +ℤ (w *ℤ pos r))
    least x y h k (inl e) =
        let a = times_low (pos D) x w (omega (arith, ints)) h in
        let b = ap (λ v. w *ℤ v) e in
        let c = *ℤ_comm w (pos D) in
        let l : pos 0 ≤ℤ w = omega (arith, ints) in
        let g = not_negative w (pos r) l (omega (arith, ints)) in
        omega (arith, ints)
    least x y h k (inr e) =
        let a = times_low (pos D) x (pos r *ℤ z) (omega (arith, ints)) k in
        let b = ap (λ v. w *ℤ v) e in
        let c = near_times r w p z n in
        omega (arith, ints)
