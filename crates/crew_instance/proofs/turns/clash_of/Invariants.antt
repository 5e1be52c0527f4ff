use Rattle.std.proofs.Common.{ℕ, ◌<◌, ◌+◌}
use Rattle.crew_instance.proofs.TeamTurns.{Follows}
use Rattle.crew_instance.proofs.turns.clash_of.Given as goal

abbrev pub invariant-loop-i : goal.invariant-loop-i
invariant-loop-i l = (a : ℕ) → a + 1 < l.i → Follows l.instance l.turns a (a + 1)
