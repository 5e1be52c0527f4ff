use Rattle.std.proofs.Common.{◌≡◌, ◌<◌, ◌≤◌, ℕ, false}
use Rattle.crew_terms.specs.Limits.{has_required}
use Rattle.leaf_check.proofs.keys.next_priced.Given as goal

abbrev pub invariant-loop-j : goal.invariant-loop-j
invariant-loop-j l = (i : ℕ) → l.from ≤ i → i < l.j → has_required l.limits.limits i ≡ false
