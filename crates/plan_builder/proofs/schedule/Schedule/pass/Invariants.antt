use Rattle.std.proofs.Common.{◌<◌}
use Rattle.plan_builder.specs.Schedules.{IsFilled}
use Rattle.plan_builder.proofs.schedule.Schedule.pass.Given as goal

abbrev pub invariant-loop-j : goal.invariant-loop-j
invariant-loop-j l = IsFilled l.fn.self l.self (λ h. h < l.j)
