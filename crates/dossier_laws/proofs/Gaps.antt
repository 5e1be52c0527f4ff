-- sums of products, and products with two numbers that lie apart
use Rattle.std.proofs.Common.{◌≡◌, ◌≤◌, ◌<◌, ◌+◌, ℕ, zero, suc, ap, arith, ◌⊎◌, inl, inr}
use Rattle.std.specs.Prelude.{ℤ, pos, ◌+ℤ◌, ◌≤ℤ◌, ◌-◌, neg_ℤ}
use Rattle.std.proofs.lemmas.Int.{ints}
use Rattle.std.proofs.lemmas.Bool.{cases_lt}
use Rattle.crew_terms.specs.Total.{total}
use Rattle.crew_num.specs.Scales.{times, times-add, times-le, times-of-zero, times-plus}
use Rattle.share_terms.specs.Shares.{distance}

pub times-total : (a n : ℕ) (f : ℕ → ℤ) → times a (total n f) ≡ total n (λ j. times a (f j))
times-total a zero f = times-of-zero a
times-total a (suc n) f =
    let g = times-plus a (total n f) (f n) in
    let h = times-total a n f in
    omega (arith, ints)

-- a and b times z are no further apart than the distance of a and b, times a bound of z
pub times-apart : (a b m : ℕ) (z : ℤ) → neg_ℤ (pos m) ≤ℤ z → z ≤ℤ pos m → times a z ≤ℤ (times b z +ℤ times (distance a b) (pos m))
times-apart a b m z low high = by (cases_lt a b)
  where
    by : (a < b) ⊎ (b ≤ a) → times a z ≤ℤ (times b z +ℤ times (distance a b) (pos m))
    by (inl lt) =
        let d : distance a b ≡ b - a = omega arith in
        let e : a + (b - a) ≡ b = omega arith in
        let f = ap (λ x. times x z) e in
        let g = times-add a (b - a) z in
        let h = ap (λ x. times x (pos m)) d in
        let i = times-le (b - a) (neg_ℤ (pos m)) z low in
        let j = times-plus (b - a) (neg_ℤ (pos m)) (pos m) in
        let k : neg_ℤ (pos m) +ℤ pos m ≡ pos 0 = omega (arith, ints) in
        let l = ap (times (b - a)) k in
        let o = times-of-zero (b - a) in
        omega (arith, ints)
    by (inr le) =
        let d : distance a b ≡ a - b = omega arith in
        let e : b + (a - b) ≡ a = omega arith in
        let f = ap (λ x. times x z) e in
        let g = times-add b (a - b) z in
        let h = ap (λ x. times x (pos m)) d in
        let i = times-le (a - b) z (pos m) high in
        omega (arith, ints)
