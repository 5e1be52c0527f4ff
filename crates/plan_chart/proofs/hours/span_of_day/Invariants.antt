use Rattle.std.proofs.Common.{◌≡◌}
use Rattle.plan_chart.specs.Hours.{windows_span}
use Rattle.plan_chart.proofs.hours.span_of_day.Given as goal

abbrev pub invariant-loop-j : goal.invariant-loop-j
invariant-loop-j l = l.span ≡ windows_span l.instance l.j
