-- laws of what a bound proves
use Rattle.std.proofs.Common.{◌≤◌, ℕ, zero, suc, arith}
use Rattle.std.specs.Prelude.{ℤ, ◌≤ℤ◌}
use Rattle.std.proofs.lemmas.Int.{ints}
use Rattle.crew_terms.specs.Leaf.{Proves}

-- a greater bound proves as much
pub proves_more : (b c : ℤ) (l : ℕ) → b ≤ℤ c → Proves b l → Proves c l
proves_more b c zero le h = tt
proves_more b c (suc l) le h = omega (arith, ints)

-- a bound proves less too
pub proves_less : (b : ℤ) (l m : ℕ) → m ≤ l → Proves b l → Proves b m
proves_less b l zero le h = tt
proves_less b zero (suc m) le h = absurd (omega arith)
proves_less b (suc l) (suc m) le h = omega (arith, ints)
