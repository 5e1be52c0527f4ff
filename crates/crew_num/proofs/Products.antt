-- products of signed numbers
use Rattle.std.proofs.Common.{◌≡◌, ◌*◌, ◌≤◌, ℕ, ap, arith}
use Rattle.std.specs.Prelude.{ℤ, pos, negsuc, ◌*ℤ◌, ◌≤ℤ◌}
use Rattle.std.proofs.lemmas.Int.{ints}
use Rattle.std.proofs.Math.Nat.{mul-le-mul}
use borrow.Author.Differences.{up, down, product_is}

pub times_swap : (a b c : ℤ) → (a *ℤ b) *ℤ c ≡ (a *ℤ c) *ℤ b
times_swap a b c =
    let l = product_is a b in
    let r = product_is a c in
    let f = ap (λ k. k * up c) l.0 in
    let g = ap (λ k. k * down c) l.0 in
    let h = ap (λ k. k * up c) l.1 in
    let i = ap (λ k. k * down c) l.1 in
    let j = ap (λ k. k * up b) r.0 in
    let k = ap (λ k. k * down b) r.0 in
    let m = ap (λ k. k * up b) r.1 in
    let n = ap (λ k. k * down b) r.1 in
    omega (arith, ints)

-- a bounded product
pub product_at_most : (a : ℤ) (n most times : ℕ) → pos 0 ≤ℤ a → a ≤ℤ pos most → n ≤ times → (a *ℤ pos n) ≤ℤ pos (most * times)
product_at_most (pos a) n most times h k l = let f : a ≤ most = omega (arith, ints) in let g = mul-le-mul f l in omega (arith, ints)
product_at_most (negsuc a) n most times h k l = absurd (omega (arith, ints))
