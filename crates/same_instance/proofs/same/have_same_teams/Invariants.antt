use Rattle.std.proofs.Common.{◌≡◌, ◌<◌, ℕ}
use Rattle.crew_terms.specs.Instance.{team_of}
use Rattle.same_instance.proofs.same.have_same_teams.Given as goal

abbrev pub invariant-loop-k : goal.invariant-loop-k
invariant-loop-k l = (h : ℕ) → h < l.k → team_of l.a h ≡ team_of l.b h
