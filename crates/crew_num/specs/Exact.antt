-- exact results, and those that leave the range of i128
use Rattle.std.specs.Prelude.{◌≡◌, ℤ, FitsSigned, ◌+ℤ◌, ◌-ℤ◌, ◌*ℤ◌, Result, MatchResult}
use Rattle.std.specs.Int.{w128}
use Rattle.crew_num.specs.declared.exact.Op.{Op}
use Rattle.crew_num.specs.declared.exact.Op.TheVariants.{Add, Sub, Mul}
use Rattle.crew_num.specs.declared.exact.Overflow.{Overflow}

abbrev pub exact : Op → ℤ → ℤ → ℤ
exact Add a b = a +ℤ b
exact Sub a b = a -ℤ b
exact Mul a b = a *ℤ b

-- a number of 128 bits, with a sign
abbrev pub FitsI128 : ℤ → Type 0
FitsI128 z = FitsSigned w128 z

-- the exact result leaves i128
abbrev pub IsOverflow : Overflow → Type 0
IsOverflow f = FitsI128 (exact f.op f.a f.b) → ⊥

abbrev pub fault : Op → ℤ → ℤ → Overflow
fault op a b = record { op = op; a = a; b = b }

-- the exact result, or the operation with both operands where the result leaves i128
abbrev pub IsExact : Result ℤ Overflow → Op → ℤ → ℤ → Type 0
IsExact r op a b = MatchResult r (λ z. (z ≡ exact op a b) × FitsI128 (exact op a b)) (λ f. (f ≡ fault op a b) × IsOverflow f)

-- every step of p * a - e * b lies in i128
pub record StepsFit (p a e b : ℤ) : Type 0 where
  pub raised : FitsI128 (p *ℤ a)
  pub taken : FitsI128 (e *ℤ b)
  pub rest : FitsI128 ((p *ℤ a) -ℤ (e *ℤ b))

-- the first step of p * a - e * b that leaves i128
pub data IsFirstOf (p a e b : ℤ) (f : Overflow) : Type 0 where
  Raised : (is : f ≡ fault Mul p a) → IsFirstOf p a e b f
  Taken : (raised : FitsI128 (p *ℤ a)) (is : f ≡ fault Mul e b) → IsFirstOf p a e b f
  Rest : (raised : FitsI128 (p *ℤ a)) (taken : FitsI128 (e *ℤ b)) (is : f ≡ fault Sub (p *ℤ a) (e *ℤ b)) → IsFirstOf p a e b f

abbrev pub IsCross : Result ℤ Overflow → ℤ → ℤ → ℤ → ℤ → Type 0
IsCross r p a e b = MatchResult r (λ z. (z ≡ (p *ℤ a) -ℤ (e *ℤ b)) × StepsFit p a e b) (λ f. IsOverflow f × IsFirstOf p a e b f)
