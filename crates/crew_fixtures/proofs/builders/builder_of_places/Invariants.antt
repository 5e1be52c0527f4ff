use Rattle.std.proofs.Common.{◌≡◌, [], length}
use Rattle.crew_fixtures.proofs.builders.builder_of_places.Given as goal

abbrev pub invariant-loop-place : goal.invariant-loop-place
invariant-loop-place l = record {
  places : length l.day.places ≡ l.place-index;
  teams : l.day.teams ≡ [];
  tasks : l.day.tasks ≡ [];
}
