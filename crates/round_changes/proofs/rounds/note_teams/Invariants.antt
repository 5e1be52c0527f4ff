use Rattle.std.proofs.Common.{◌≡◌, map, take}
use Rattle.round_changes.specs.Named.{team_name}
use Rattle.round_changes.proofs.rounds.note_teams.Given as goal

abbrev pub invariant-loop-k : goal.invariant-loop-k
invariant-loop-k l = l.names.items ≡ map (team_name l.instance) (take l.k-index l.teams)
