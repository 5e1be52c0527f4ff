-- how pivots end, and what an ended master answers
use Rattle.std.specs.Prelude.{◌≡◌, ℕ, Option, None, Some, MatchOption}
use Rattle.crew_num.specs.declared.Overflow.{Overflow}
use Rattle.frac_master.specs.declared.solved.Solved.{Solved}
use Rattle.frac_master.specs.declared.solved.Solved.TheVariants.{Optimal, Overflow as Overflowed, Spent}
use Rattle.frac_master.specs.State.{MasterState}
use Rattle.frac_master.specs.Running.{Runs}

abbrev pub overflow_of : Solved → Option Overflow
overflow_of Optimal = None
overflow_of Spent = None
overflow_of (Overflowed f) = Some f

-- what solving makes of a master that no overflow has ended
pub record SolvesOn (old : MasterState) (pivots : ℕ) (solved : Solved) (new : MasterState) : Type 0 where
  pub places : new.places ≡ old.places
  pub columns : new.columns ≡ old.columns
  pub ended : new.ended ≡ overflow_of solved
  pub pivoted : Runs old.rows pivots new.made solved new.rows

-- a master that an overflow has ended answers it again
abbrev pub Solves : MasterState → ℕ → Solved → MasterState → Type 0
Solves old pivots solved new = MatchOption old.ended (SolvesOn old pivots solved new) (λ f. (solved ≡ Overflowed f) × (new ≡ old))
