-- sums of signed numbers
use Rattle.std.proofs.Common.{◌≡◌, ◌≤◌, ◌<◌, ◌+◌, ◌*◌, ◌^◌, ℕ, ℤ, pos, negsuc, ◌+ℤ◌, ◌-ℤ◌, ◌*ℤ◌, ap, w64, arith, add-one}
use Rattle.std.specs.Prelude.{FitsSigned}
use Rattle.std.specs.Int.RustNames.{unsigned_abs}
use Rattle.std.proofs.lemmas.Int.{ints, unsigned_abs-mul, fits_signed_from_abs}
use Rattle.std.specs.Int.{w128}
use Rattle.std.proofs.lemmas.Nat.{mul-le}
use Rattle.crew_terms.specs.Leaf.{IsPrice}
use Rattle.crew_terms.specs.Total.{total}
use Rattle.crew_terms.specs.declared.TheConstants.{MOST_PRICE, MOST_TASKS, MOST_TEAMS, MOST_TEAMS_PER_TASK}
use Rattle.potentials.specs.Sums.{IsBoundedBy}

total_more : (n : ℕ) (f : ℕ → ℤ) → total (n + 1) f ≡ total n f +ℤ f n
total_more n f = ap (λ m. total m f) (add-one n)

pub sum_more : (f : ℕ → ℤ) (n : ℕ) (sum next : ℤ) → sum ≡ total n f → next ≡ f n → sum +ℤ next ≡ total (n + 1) f
sum_more f n sum next is e = let t = total_more n f in omega (arith, ints)

price_up_to : (v : ℤ) → IsPrice v → IsBoundedBy MOST_PRICE v
price_up_to v is =
    let a = is.least in
    let b = is.most in
    record { least = omega (arith, ints); most = omega (arith, ints) }

up_to_from_abs : (limit : ℕ) (v : ℤ) → unsigned_abs v ≤ limit → IsBoundedBy limit v
up_to_from_abs limit (pos n) le = record { least = omega (arith, ints); most = omega (arith, ints) }
up_to_from_abs limit (negsuc n) le = record { least = omega (arith, ints); most = omega (arith, ints) }

abs_from_up_to : (limit : ℕ) (v : ℤ) → IsBoundedBy limit v → unsigned_abs v ≤ limit
abs_from_up_to limit (pos n) is = let a = is.most in omega (arith, ints)
abs_from_up_to limit (negsuc n) is = let a = is.least in omega (arith, ints)

-- what the teams of a task earn at a price
pub product_up_to : (teams : ℕ) (price : ℤ) → teams ≤ MOST_TEAMS_PER_TASK → IsPrice price → IsBoundedBy (MOST_TEAMS_PER_TASK * MOST_PRICE) (pos teams *ℤ price)
product_up_to teams price few is = up_to_from_abs (MOST_TEAMS_PER_TASK * MOST_PRICE) (pos teams *ℤ price) (rw (unsigned_abs-mul (pos teams) price) (mul-le teams (unsigned_abs price) MOST_TEAMS_PER_TASK MOST_PRICE few (abs_from_up_to MOST_PRICE price (price_up_to price is))))

-- a number of 64 bits
pub number_up_to : (v : ℤ) → FitsSigned w64 v → IsBoundedBy (2 ^ 63) v
number_up_to v fits = record { least = omega (arith, ints, fits.sfits); most = omega (arith, ints, fits.sfits) }

-- the two sums of a bound
pub bound_fits : (tasks teams : ℕ) (terms worths : ℤ) → tasks ≤ MOST_TASKS → teams ≤ MOST_TEAMS → IsBoundedBy (MOST_TEAMS_PER_TASK * MOST_PRICE * tasks) terms → IsBoundedBy (2 ^ 63 * teams) worths
    → FitsSigned w128 (terms -ℤ worths)
bound_fits tasks teams terms worths few some a d = fits_signed_from_abs w128 (terms -ℤ worths) (lt_from_le (abs_from_up_to 700000000000000000000 (terms -ℤ worths) all))
  where
    all : IsBoundedBy 700000000000000000000 (terms -ℤ worths)
    all =
        let a0 = a.least in
        let a1 = a.most in
        let d0 = d.least in
        let d1 = d.most in
        record { least = omega (arith, ints); most = omega (arith, ints) }

    lt_from_le : unsigned_abs (terms -ℤ worths) ≤ 700000000000000000000 → unsigned_abs (terms -ℤ worths) < 2 ^ 127
    lt_from_le le = omega arith
