use Rattle.std.proofs.Common.{◌<◌, ℕ}
use Rattle.search_terms.specs.Closing.{IsCrowded}
use Rattle.leaf_close.proofs.faults.crowded_task.Given as goal

abbrev pub invariant-loop-j : goal.invariant-loop-j
invariant-loop-j l = (h : ℕ) → h < l.j → IsCrowded l.limits.limits h → ⊥
