use Rattle.std.proofs.Common.{◌≡◌, take}
use Rattle.part_make.proofs.lists.teams_of.Given as goal

abbrev pub invariant-loop-k : goal.invariant-loop-k
invariant-loop-k l = l.teams.items ≡ take l.k l.whole.teams
