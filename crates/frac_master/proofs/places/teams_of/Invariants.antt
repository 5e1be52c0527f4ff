use Rattle.std.proofs.Common.{◌≡◌, length}
use Rattle.frac_master.specs.Numbers.{AreTeamsOf}
use Rattle.frac_master.proofs.places.teams_of.Given as goal

abbrev pub invariant-loop-j : goal.invariant-loop-j
invariant-loop-j l = record {
  count : length l.teams.items ≡ l.j;
  teams : AreTeamsOf l.teams.items l.limits.limits;
}
