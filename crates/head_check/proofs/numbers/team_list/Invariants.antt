use Rattle.std.proofs.Common.{◌≡◌, take}
use Rattle.head_check.specs.Numbers.{naturals}
use Rattle.head_check.proofs.numbers.team_list.Given as goal

abbrev pub invariant-loop-n : goal.invariant-loop-n
invariant-loop-n l = l.list.items ≡ take l.n (naturals l.teams)
