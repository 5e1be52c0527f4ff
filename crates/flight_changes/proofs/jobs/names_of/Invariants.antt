use Rattle.std.proofs.Common.{◌≡◌, map, take}
use Rattle.crew_terms.specs.Instance.{team_of}
use Rattle.flight_changes.proofs.jobs.names_of.Given as goal

abbrev pub invariant-loop-k : goal.invariant-loop-k
invariant-loop-k l = l.names.items ≡ map (λ k. (team_of l.instance k).name) (take l.k-index l.teams)
