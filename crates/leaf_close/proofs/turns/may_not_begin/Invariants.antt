use Rattle.std.proofs.Common.{◌<◌, ℕ}
use Rattle.crew_terms.specs.Limits.{IsPermittedVisit}
use Rattle.leaf_close.specs.Turns.{turn_at}
use Rattle.leaf_close.proofs.turns.may_not_begin.Given as goal

abbrev pub invariant-loop-v : goal.invariant-loop-v
invariant-loop-v l = (i : ℕ) → i < l.v-index → IsPermittedVisit l.limits.limits l.k (turn_at l.turns i).task (turn_at l.turns i).start
