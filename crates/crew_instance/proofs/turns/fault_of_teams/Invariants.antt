use Rattle.std.proofs.Common.{ℕ, ◌<◌}
use Rattle.crew_terms.specs.Verdict.{HasNoClash}
use Rattle.crew_instance.proofs.turns.fault_of_teams.Given as goal

abbrev pub invariant-loop-k : goal.invariant-loop-k
invariant-loop-k l = (g : ℕ) → g < l.k → HasNoClash l.instance l.plan g
