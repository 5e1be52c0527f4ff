-- how far a price moves, in 128 bits
use Rattle.std.proofs.Common.{◌≤◌, ◌<◌, ◌*◌, ◌^◌, ℕ, ℤ, pos, negsuc, ◌+ℤ◌, w64, arith}
use Rattle.std.specs.Prelude.{FitsSigned}
use Rattle.std.specs.Int.RustNames.{unsigned_abs}
use Rattle.std.specs.Int.{w128}
use Rattle.std.proofs.lemmas.Int.{ints, fits_signed_from_abs}
use Rattle.crew_terms.specs.declared.TheConstants.{D}
use Rattle.potentials.specs.Sums.{IsBoundedBy}

to_abs : (limit : ℕ) (v : ℤ) → IsBoundedBy limit v → unsigned_abs v ≤ limit
to_abs limit (pos n) is = let a = is.most in omega (arith, ints)
to_abs limit (negsuc n) is = let a = is.least in omega (arith, ints)

-- a price and what it is moved by have room in 128 bits together
pub price_and_change_fit : (p v : ℤ) → FitsSigned w64 p → IsBoundedBy (D * 2 ^ 64) v → FitsSigned w128 (p +ℤ v)
price_and_change_fit p v f is = fits_signed_from_abs w128 (p +ℤ v) (small (to_abs (2 ^ 96) (p +ℤ v) all))
  where
    all : IsBoundedBy (2 ^ 96) (p +ℤ v)
    all =
        let a = is.least in
        let b = is.most in
        record { least = omega (arith, ints, f.sfits); most = omega (arith, ints, f.sfits) }

    small : unsigned_abs (p +ℤ v) ≤ 2 ^ 96 → unsigned_abs (p +ℤ v) < 2 ^ 127
    small le = omega arith
