-- a legal plan with what each team does in it
use Rattle.std.specs.Prelude.{◌<◌, ℕ, List, length, slice_index_or}
use Rattle.crew_terms.specs.Instance.{Instance}
use Rattle.crew_terms.specs.Plan.{Plan}
use Rattle.crew_instance.specs.Turns.{AreTurns}
use Rattle.crew_instance.specs.declared.turns.Turn.{Turn}
use Rattle.arrayvec.specs.ArrayVec.{ArrayVec}

-- a plan of an instance
pub record Planned : Type 0 where
  pub instance : Instance
  pub plan : Plan

-- what each of the teams does in the plan, in order
abbrev pub AreDays : Plan → List (ArrayVec Turn) → Type 0
AreDays p days = (k : ℕ) (d : ArrayVec Turn) → k < length days → AreTurns p k (length p) (slice_index_or days k d).items
