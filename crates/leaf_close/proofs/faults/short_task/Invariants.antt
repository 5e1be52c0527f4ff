use Rattle.std.proofs.Common.{◌<◌, ℕ}
use Rattle.search_terms.specs.Closing.{IsShort}
use Rattle.leaf_close.proofs.faults.short_task.Given as goal

abbrev pub invariant-loop-j : goal.invariant-loop-j
invariant-loop-j l = (h : ℕ) → h < l.j → IsShort l.limits.limits h → ⊥
