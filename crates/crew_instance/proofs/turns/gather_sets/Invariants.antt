use Rattle.std.proofs.Common.{◌≡◌, length}
use Rattle.crew_instance.specs.Turns.{AreTeamSets}
use Rattle.crew_instance.proofs.turns.gather_sets.Given as goal

abbrev pub invariant-loop-task : goal.invariant-loop-task
invariant-loop-task l = record {
  count : length l.sets.items ≡ l.task;
  sets : AreTeamSets l.plan l.sets.items;
}
