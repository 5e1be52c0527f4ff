use Rattle.std.proofs.Common.{◌≡◌, ◌<◌, ◌≤◌, ℕ, false}
use Rattle.leaf_check.specs.Keys.{has_minutes}
use Rattle.leaf_check.proofs.keys.next_open.Given as goal

abbrev pub invariant-loop-j : goal.invariant-loop-j
invariant-loop-j l = (i : ℕ) → l.from ≤ i → i < l.j → has_minutes l.limits.limits l.k i ≡ false
