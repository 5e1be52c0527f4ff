-- the order of ratios, and floors
use Rattle.std.specs.Prelude.{◌≡◌, ℤ, pos, ◌+ℤ◌, ◌*ℤ◌, ◌<ℤ◌, ◌≤ℤ◌}
use Rattle.std.specs.Ordering.{MatchOrdering}
use Rattle.std.specs.declared.cmp.Ordering.{Ordering}
use Rattle.crew_num.specs.declared.exact.Op.TheVariants.{Mul}
use Rattle.crew_num.specs.declared.exact.Overflow.{Overflow}
use Rattle.crew_num.specs.Exact.{FitsI128, IsOverflow, fault}

-- how x compares with y
abbrev pub IsOrder : Ordering → ℤ → ℤ → Type 0
IsOrder order x y = MatchOrdering order (x <ℤ y) (x ≡ y) (y <ℤ x)

-- the first of a * d and c * b that leaves i128
pub data IsFirstProduct (a b c d : ℤ) (f : Overflow) : Type 0 where
  Left : (is : f ≡ fault Mul a d) (leaves : IsOverflow f) → IsFirstProduct a b c d f
  Right : (left : FitsI128 (a *ℤ d)) (is : f ≡ fault Mul c b) (leaves : IsOverflow f) → IsFirstProduct a b c d f

-- the greatest whole number that is not above n/d, where d is positive
pub record IsFloor (floor n d : ℤ) : Type 0 where
  pub not_above : (floor *ℤ d) ≤ℤ n
  pub next_above : n <ℤ ((floor +ℤ pos 1) *ℤ d)

-- the floor of num * scale / den leaves i128: told by the product, which leaves it too
pub record IsFloorOverflow (num den scale : ℤ) (f : Overflow) : Type 0 where
  pub is : f ≡ fault Mul num scale
  pub product_leaves : IsOverflow f
  pub floor : ℤ
  pub is_floor : IsFloor floor (num *ℤ scale) den
  pub floor_leaves : FitsI128 floor → ⊥
