use Rattle.std.proofs.Common.{◌≡◌}
use Rattle.plan_chart.specs.Hours.{shifts_span}
use Rattle.plan_chart.proofs.hours.span_of_shifts.Given as goal

abbrev pub invariant-loop-k : goal.invariant-loop-k
invariant-loop-k l = l.span ≡ shifts_span l.instance l.k
