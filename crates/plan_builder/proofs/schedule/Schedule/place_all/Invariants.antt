use Rattle.plan_builder.specs.Schedules.{Extends}
use Rattle.plan_builder.proofs.schedule.Schedule.place_all.Given as goal

abbrev pub invariant-loop-j : goal.invariant-loop-j
invariant-loop-j l = Extends l.fn.self l.self
