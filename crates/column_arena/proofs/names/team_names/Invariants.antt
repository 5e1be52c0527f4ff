use Rattle.std.proofs.Common.{◌≡◌, map, take}
use Rattle.crew_terms.specs.declared.Team.{Team}
use Rattle.column_arena.proofs.names.team_names.Given as goal

abbrev pub invariant-loop-k : goal.invariant-loop-k
invariant-loop-k l = l.names.items ≡ map (λ (t : Team). t.name) (take l.k l.instance.teams)
