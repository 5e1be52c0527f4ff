use Rattle.std.proofs.Common.{ℕ, ◌<◌}
use Rattle.plan_check.specs.Within.{KeepsPair}
use Rattle.plan_check.proofs.within.keeps_task.Given as goal

abbrev pub invariant-loop-k : goal.invariant-loop-k
invariant-loop-k l = (h : ℕ) → h < l.k → KeepsPair l.limits.limits l.plan h l.j
