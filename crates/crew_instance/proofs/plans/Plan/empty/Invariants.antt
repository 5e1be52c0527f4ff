use Rattle.std.proofs.Common.{◌≡◌, replicate, None}
use Rattle.crew_instance.proofs.plans.Plan.empty.Given as goal

abbrev pub invariant-loop : goal.invariant-loop
invariant-loop l = l.slots.items ≡ replicate l.counter None
