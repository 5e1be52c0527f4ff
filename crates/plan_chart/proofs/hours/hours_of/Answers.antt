use Rattle.std.proofs.Common.{refl}
use Rattle.plan_chart.specs.Hours.{hours_of}
use Rattle.plan_chart.proofs.hours.hours_of.Goals as goal

pub returns-clause-hours : goal.returns-clause-hours
unfolding hours_of
returns-clause-hours c = rw (c.min.ensures, c.min-2.ensures, c.span_of_day-span.ensures) refl
