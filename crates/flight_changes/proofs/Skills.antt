-- a skill as a bit of a number of 64 bits
use Rattle.std.proofs.Common.{◌≡◌, ◌<◌, ◌^◌, ◌*◌, ◌%◌, ℕ, arith, ap}
use Rattle.std.specs.Prelude.{bit_and, bit_or}
use Rattle.std.specs.Int.{bit_not, w64}
use Rattle.std.proofs.Math.Pow.{pow-lt}
use Rattle.std.proofs.lemmas.Nat.{or_lt, and_le_l}
use Rattle.crew_terms.specs.declared.TheConstants.{SKILLS}

below_word : (k : ℕ) → k < SKILLS → 2 ^ k < 2 ^ SKILLS
below_word k h = pow-lt h

one_bit : (k : ℕ) → k < SKILLS → 1 * 2 ^ k % 2 ^ SKILLS ≡ 2 ^ k
one_bit k h = let b = below_word k h in omega arith

pub with_skill : (skills k : ℕ) → k < SKILLS → bit_or skills (1 * 2 ^ k % 2 ^ SKILLS) ≡ bit_or skills (2 ^ k)
with_skill skills k h = ap (bit_or skills) (one_bit k h)

pub without_skill : (skills k : ℕ) → k < SKILLS → bit_and skills (bit_not w64 (1 * 2 ^ k % 2 ^ SKILLS)) ≡ bit_and skills (bit_not w64 (2 ^ k))
without_skill skills k h = ap (λ b. bit_and skills (bit_not w64 b)) (one_bit k h)

pub with_skill_fits : (skills k : ℕ) → k < SKILLS → skills < 2 ^ SKILLS → bit_or skills (1 * 2 ^ k % 2 ^ SKILLS) < 2 ^ SKILLS
with_skill_fits skills k h few = rw (with_skill skills k h) (or_lt SKILLS skills (2 ^ k) few (below_word k h))

pub without_skill_fits : (skills m : ℕ) → skills < 2 ^ SKILLS → bit_and skills m < 2 ^ SKILLS
without_skill_fits skills m few = let l = and_le_l skills m in omega arith
