-- a sink that checks what it takes
use Rattle.std.specs.Prelude.{ℕ, List, []}

-- the bytes that were written to it, and how many of its writes it answered with a fault
pub record Checking : Type 0 where
  pub got : List ℕ
  pub faults : ℕ

-- a sink to which nothing was written
abbrev pub fresh_check : Checking
fresh_check = record { got = []; faults = 0 }
