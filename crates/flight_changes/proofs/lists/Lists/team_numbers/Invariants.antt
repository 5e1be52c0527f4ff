use Rattle.std.proofs.Common.{◌≡◌, map, take}
use Rattle.day_terms.specs.Instances.{team_number}
use Rattle.flight_changes.proofs.lists.Lists.team_numbers.Given as goal

abbrev pub invariant-loop-team : goal.invariant-loop-team
invariant-loop-team l = l.numbers.items ≡ map (team_number l.self) (take l.team-index l.teams)
