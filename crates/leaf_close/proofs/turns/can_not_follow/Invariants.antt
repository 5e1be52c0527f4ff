use Rattle.std.proofs.Common.{◌<◌, ◌+◌, ℕ}
use Rattle.leaf_close.specs.Turns.{IsStepAt}
use Rattle.leaf_close.proofs.turns.can_not_follow.Given as goal

abbrev pub invariant-loop-i : goal.invariant-loop-i
invariant-loop-i l = (a : ℕ) → a + 1 < l.i → IsStepAt l.limits.limits l.turns a
