use Rattle.std.proofs.Common.{◌≡◌, ◌++◌, take}
use Rattle.crew_fixtures.proofs.builders.add_tasks.Given as goal

abbrev pub invariant-loop-task : goal.invariant-loop-task
invariant-loop-task l = record {
  places : l.day.places ≡ l.initial.day.places;
  teams : l.day.teams ≡ l.initial.day.teams;
  tasks : l.day.tasks ≡ l.initial.day.tasks ++ take l.task-index l.tasks;
}
