use Rattle.crew_terms.specs.Plan.{unassigned_count}
use Rattle.plan_builder.specs.Schedules.{Extends}
use Rattle.plan_builder.proofs.schedule.Schedule.fill.Given as goal

abbrev pub invariant-loop-self : goal.invariant-loop-self
invariant-loop-self l = Extends l.fn.self l.self

abbrev pub decreases-loop-self : goal.decreases-loop-self
decreases-loop-self l = unassigned_count l.self.plan
