-- laws of sets of skills, which are bits of a number
use Rattle.std.proofs.Common.{◌≡◌, ℕ, min, arith, ◌∙◌, ap, ◌⊎◌, inl, inr}
use Rattle.std.specs.Int.{bit_at}
use Rattle.std.specs.Prelude.{bit_and}
use Rattle.std.proofs.lemmas.Nat.Bits.{bit_at_and, bit_at-lt, same_from_bits}
use Rattle.std.proofs.lemmas.Bool.{cases_eq}

-- where what is common to a and b is b, a has each bit of b
pub has_bits : (a b : ℕ) → bit_and a b ≡ b → (s : ℕ) → bit_at b s ≡ 1 → bit_at a s ≡ 1
has_bits a b e s h =
    let f = bit_at_and a b s in
    let g : bit_at (bit_and a b) s ≡ bit_at b s = ap (λ x. bit_at x s) e in
    let i = bit_at-lt a s in
    omega arith

-- and only there
pub bits_had : (a b : ℕ) → ((s : ℕ) → bit_at b s ≡ 1 → bit_at a s ≡ 1) → bit_and a b ≡ b
bits_had a b h = same_from_bits (bit_and a b) b (λ s. bit_at_and a b s ∙ at s (cases_eq (bit_at b s) 1))
  where
    at : (s : ℕ) → (bit_at b s ≡ 1) ⊎ (bit_at b s ≡ 1 → ⊥) → min (bit_at a s) (bit_at b s) ≡ bit_at b s
    at s (inl e) = let f = h s e in omega arith
    at s (inr ne) = let l = bit_at-lt b s in let z : bit_at b s ≡ 0 = omega arith in omega arith
