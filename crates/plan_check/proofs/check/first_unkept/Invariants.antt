use Rattle.std.proofs.Common.{ℕ, ◌<◌}
use Rattle.crew_terms.specs.Legal.{KeepsFrozen}
use Rattle.plan_check.proofs.check.first_unkept.Given as goal

abbrev pub invariant-loop-j : goal.invariant-loop-j
invariant-loop-j l = (h : ℕ) → h < l.j → KeepsFrozen l.instance l.plan h
