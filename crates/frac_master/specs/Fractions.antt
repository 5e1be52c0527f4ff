-- shares in lowest terms, and common multiples of their denominators
use Rattle.std.specs.Prelude.{◌≡◌, ◌<◌, ◌*◌, ◌^◌, ℕ, pos}
use Rattle.std.specs.Int.{IsGcd, ◌∣◌}
use Rattle.crew_num.specs.declared.Op.TheVariants.{Mul}
use Rattle.crew_num.specs.declared.Overflow.{Overflow}
use Rattle.crew_num.specs.Exact.{IsOverflow, fault}
use Rattle.search_terms.specs.Rows.{Rows}
use Rattle.search_terms.specs.Overflows.{IsDenominator}
use Rattle.frac_master.specs.Shares.{parts_at}

-- num/den is the share of the variable at place j in lowest terms
pub record IsLowestShare (t : Rows) (j num den : ℕ) : Type 0 where
  pub some : 0 < den
  pub fits : den < 2 ^ 127
  pub is : IsDenominator t j den
  pub times : (k : ℕ) → parts_at t (den * k) j ≡ num * k

-- the share of the variable at place j is a number of parts of which `whole` make one, and this number is small
pub record IsWholeAt (t : Rows) (whole j : ℕ) : Type 0 where
  pub multiple : (d : ℕ) → IsDenominator t j d → d ∣ whole
  pub fits : parts_at t whole j < 2 ^ 127

-- next is the least common multiple of m and d: m times what d adds to it
pub record IsNextMultiple (m d next : ℕ) : Type 0 where
  pub factor : ℕ
  pub more : ℕ
  pub gcd : IsGcd m d factor
  pub adds : more * factor ≡ d
  pub is : next ≡ m * more
  pub fits : next < 2 ^ 127

-- this product leaves i128
pub record IsMultipleFault (m d : ℕ) (f : Overflow) : Type 0 where
  pub leaves : IsOverflow f
  pub factor : ℕ
  pub more : ℕ
  pub gcd : IsGcd m d factor
  pub adds : more * factor ≡ d
  pub is : f ≡ fault Mul (pos m) (pos more)
