-- causes by their numbers
use Rattle.std.specs.Prelude.{ℕ, List, slice_index_or}
use Rattle.node_solver.specs.declared.step.Why.TheVariants.{Spent}
use Rattle.search_core.specs.declared.causes.Cause.{Cause}

-- the cause of a number
abbrev pub cause_with : List Cause → ℕ → Cause
cause_with causes k = slice_index_or causes k (record { now = 0; why = Spent })
