use Rattle.std.proofs.Common.{take}
use Rattle.branch_choice.proofs.UsedPairs.{IsLowestOf}
use Rattle.branch_choice.proofs.pairs.used_pair.Given as goal

abbrev pub invariant-loop-u : goal.invariant-loop-u
invariant-loop-u l = IsLowestOf l.limits.limits (take l.u-index l.uses) l.lowest
