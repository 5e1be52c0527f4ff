use Rattle.std.proofs.Common.{◌≡◌, length}
use Rattle.plan_builder.specs.Schedules.{AreDays}
use Rattle.plan_builder.proofs.schedule.days_of.Given as goal

abbrev pub invariant-loop-k : goal.invariant-loop-k
invariant-loop-k l = (length l.days.items ≡ l.k) × AreDays l.plan l.days.items
