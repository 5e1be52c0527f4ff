use Rattle.std.proofs.Common.{◌<◌, ℕ}
use Rattle.search_terms.specs.Closing.{IsStuck}
use Rattle.leaf_close.proofs.faults.stuck_team.Given as goal

abbrev pub invariant-loop-k : goal.invariant-loop-k
invariant-loop-k l = (h : ℕ) → h < l.k → IsStuck l.limits.limits h → ⊥
