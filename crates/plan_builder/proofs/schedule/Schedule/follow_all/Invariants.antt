use Rattle.plan_builder.specs.Schedules.{Extends}
use Rattle.plan_builder.proofs.schedule.Schedule.follow_all.Given as goal

abbrev pub invariant-loop-wanted : goal.invariant-loop-wanted
invariant-loop-wanted l = Extends l.fn.self l.self
