use Rattle.std.proofs.Common.{ℕ, ◌<◌}
use Rattle.plan_check.specs.Within.{KeepsTask}
use Rattle.plan_check.proofs.within.in_limits.Given as goal

abbrev pub invariant-loop-j : goal.invariant-loop-j
invariant-loop-j l = (h : ℕ) → h < l.j → KeepsTask l.limits.limits l.plan h
