-- bounds of rows' numbers
use Rattle.std.specs.Prelude.{◌≡◌, ◌≢◌, ◌≤◌, ◌<◌, ◌+◌, ◌*◌, ◌^◌, ℕ, ℤ, Option, Some, unsigned_abs}
use Rattle.kept_rows.specs.Replaced.{IsWithin}
use Rattle.kept_rows.specs.declared.columns.Column.{Column}
use Rattle.kept_rows.specs.declared.bounds.Reach.{Reach}

-- so much is added, at the place `last` or elsewhere
pub record IsFarther (r : Reach) (at more last : ℕ) (new : Reach) : Type 0 where
  pub here : at ≡ last → (new.last ≡ r.last + more) × (new.others ≡ r.others)
  pub there : at ≢ last → (new.others ≡ r.others + more) × (new.last ≡ r.last)

-- it reaches as far as both
pub record IsGreater (a b r : Reach) : Type 0 where
  pub others : (a.others ≤ r.others) × (b.others ≤ r.others)
  pub last : (a.last ≤ r.last) × (b.last ≤ r.last)

-- the reach of columns before is kept, and the column is within
pub record IsReachWith (before : Option Reach) (last : ℕ) (c : Column) (r : Reach) : Type 0 where
  pub was : Reach
  pub is : before ≡ Some was
  pub others : was.others ≤ r.others
  pub ending : was.last ≤ r.last
  pub within : IsWithin last r c

-- there is a bound, and its product with a is less than half of what i128 has
abbrev pub IsSmall : ℤ → Option ℕ → Type 0
IsSmall a most = (m : ℕ) × (most ≡ Some m) × (unsigned_abs a * m < 2 ^ 126)
