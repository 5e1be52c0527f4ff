-- what a team can still earn from a task at some minute or later
use Rattle.std.specs.Prelude.{◌≡◌, ◌≤◌, ◌<◌, ◌+◌, ◌-◌, ◌⊎◌, nat_lt, ℕ, ℤ, pos, ◌≤ℤ◌, List, length, slice_index_or, if◌then◌else◌}
use Rattle.minute_rules.specs.declared.ahead.TheConstants.{MINUTES}

-- the potential at a minute, where the first is that of minute `first`; 0 where there is none
abbrev pub potential_from : ℕ → List ℤ → ℕ → ℤ
potential_from first potentials minute = if nat_lt minute first then pos 0 else slice_index_or potentials (minute - first) (pos 0)

-- no potential from minute u on is more, and it is one of them, or 0
pub record IsMostFrom (first : ℕ) (potentials : List ℤ) (u : ℕ) (most : ℤ) : Type 0 where
  pub bound : (a : ℕ) → a < length potentials → u ≤ first + a → slice_index_or potentials a (pos 0) ≤ℤ most
  pub reached : (most ≡ pos 0) ⊎ ((a : ℕ) × (a < length potentials) × (u ≤ first + a) × (most ≡ slice_index_or potentials a (pos 0)))

-- for each minute of the days
pub record AreMostFrom (first : ℕ) (potentials most : List ℤ) : Type 0 where
  pub count : length most ≡ MINUTES
  pub each : (u : ℕ) → u < MINUTES → IsMostFrom first potentials u (slice_index_or most u (pos 0))
