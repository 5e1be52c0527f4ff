use Rattle.day_terms.specs.Instances.{plan_of_jobs}
use Rattle.flight_changes.proofs.PlansSoFar.{IsSoFar}
use Rattle.flight_changes.proofs.lists.Lists.plan_of.Given as goal

abbrev pub invariant-loop-j : goal.invariant-loop-j
invariant-loop-j l = IsSoFar l.plan (plan_of_jobs l.self l.jobs) l.j
