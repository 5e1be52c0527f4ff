use Rattle.std.proofs.Common.{◌≡◌, ◌++◌, take}
use Rattle.crew_fixtures.proofs.builders.add_teams.Given as goal

abbrev pub invariant-loop-team : goal.invariant-loop-team
invariant-loop-team l = record {
  places : l.day.places ≡ l.initial.day.places;
  teams : l.day.teams ≡ l.initial.day.teams ++ take l.team-index l.teams;
  tasks : l.day.tasks ≡ l.initial.day.tasks;
}
