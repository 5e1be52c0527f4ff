use Rattle.std.proofs.Common.{◌≡◌, ◌≤◌, take}
use Rattle.crew_terms.specs.Plan.{unassigned_count}
use Rattle.crew_instance.specs.Kept.{jobs_in}
use Rattle.crew_instance.proofs.plans.unassigned.Given as goal

abbrev pub invariant-loop-slot : goal.invariant-loop-slot
invariant-loop-slot l = record {
  few : l.n ≤ l.slot-index;
  value : l.n ≡ unassigned_count (jobs_in (take l.slot-index l.slot-items));
}
