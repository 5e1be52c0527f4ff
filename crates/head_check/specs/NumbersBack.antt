-- numbers that are not negative are read back
use Rattle.std.proofs.Common.{◌≡◌, ℕ, List, [], ◌∷◌, ap, refl}
use Rattle.std.specs.Prelude.{pos, map}
use Rattle.head_check.specs.Numbers.{naturals}

-- they are those numbers again
pub naturals-pos : (ns : List ℕ) → naturals (map pos ns) ≡ ns
naturals-pos [] = refl
naturals-pos (n ∷ ns) = ap (λ xs. n ∷ xs) (naturals-pos ns)
