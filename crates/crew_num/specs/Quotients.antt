-- quotients of whole numbers that are rounded down
use Rattle.std.proofs.Common.{◌≡◌, ◌<◌, ℕ, zero, suc, arith}
use Rattle.std.specs.Prelude.{ℤ, pos, negsuc, ◌+ℤ◌, ◌-ℤ◌, ◌*ℤ◌, ◌≤ℤ◌, ◌<ℤ◌}
use Rattle.std.specs.Int.{int_div_euclid, int_rem_euclid}
use Rattle.std.proofs.lemmas.Int.{ints}
use Rattle.std.proofs.Math.IntN.{*ℤ_comm}
use Rattle.crew_num.specs.Ring.{cancel_positive, scale_diff, scale_sum}

-- the quotient and the rest give the number again
pub division : (n : ℤ) (d : ℕ) → 0 < d → (int_div_euclid n (pos d) *ℤ pos d) +ℤ int_rem_euclid n (pos d) ≡ n
division n zero h = absurd (omega arith)
division (pos n) (suc d) h = omega (arith, ints)
division (negsuc n) (suc d) h = omega (arith, ints)

pub rest_low : (n : ℤ) (d : ℕ) → 0 < d → pos 0 ≤ℤ int_rem_euclid n (pos d)
rest_low n zero h = absurd (omega arith)
rest_low (pos n) (suc d) h = omega (arith, ints)
rest_low (negsuc n) (suc d) h = omega (arith, ints)

pub rest_below : (n : ℤ) (d : ℕ) → 0 < d → int_rem_euclid n (pos d) <ℤ pos d
rest_below n zero h = absurd (omega arith)
rest_below (pos n) (suc d) h = omega (arith, ints)
rest_below (negsuc n) (suc d) h = omega (arith, ints)

-- a number whose product is below that of the next is at most it
pub at_most : (a b d : ℤ) → pos 0 <ℤ d → (a *ℤ d) <ℤ ((b *ℤ d) +ℤ d) → a ≤ℤ b
at_most a b d up h =
    let e = scale_diff d (b +ℤ pos 1) a in
    let i = scale_sum d b (pos 1) in
    let u : d *ℤ pos 1 ≡ d = omega (arith, ints) in
    let f = *ℤ_comm a d in
    let g = *ℤ_comm b d in
    let s : pos 0 <ℤ (d *ℤ ((b +ℤ pos 1) -ℤ a)) = omega (arith, ints) in
    let p = cancel_positive d ((b +ℤ pos 1) -ℤ a) up s in
    omega (arith, ints)
