-- numbers over a denominator, as a whole and a part
use Rattle.std.specs.Prelude.{ℕ, ◌<◌, ℤ, pos, ◌+ℤ◌, ◌*ℤ◌, ◌≤ℤ◌}
use Rattle.crew_num.specs.declared.mixed.Mixed.{Mixed}

-- what it stands for, in parts of the unit of q
abbrev pub value : Mixed → ℕ → ℤ
value m q = (m.whole *ℤ pos q) +ℤ pos m.part

-- a whole from 0 to `most`, and a part below q
pub record IsMixed (m : Mixed) (q : ℕ) (most : ℤ) : Type 0 where
  pub not_negative : pos 0 ≤ℤ m.whole
  pub at_most : m.whole ≤ℤ most
  pub below : m.part < q
