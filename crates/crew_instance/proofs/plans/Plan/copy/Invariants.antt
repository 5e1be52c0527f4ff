use Rattle.std.proofs.Common.{◌≡◌}
use Rattle.crew_instance.proofs.Copies.{copied}
use Rattle.crew_instance.proofs.plans.Plan.copy.Given as goal

abbrev pub invariant-loop-i : goal.invariant-loop-i
invariant-loop-i l = l.copy ≡ copied l.self l.i
