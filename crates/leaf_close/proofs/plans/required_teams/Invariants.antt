use Rattle.std.proofs.Common.{◌≡◌}
use Rattle.leaf_close.proofs.Listing.{teams_below}
use Rattle.leaf_close.proofs.plans.required_teams.Given as goal

abbrev pub invariant-loop-k : goal.invariant-loop-k
invariant-loop-k l = l.teams.items ≡ teams_below l.limits.limits l.j l.k
