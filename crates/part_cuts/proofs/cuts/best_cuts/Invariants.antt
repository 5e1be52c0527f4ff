use Rattle.std.proofs.Common.{◌≤◌, ◌-◌, length}
use Rattle.part_cuts.proofs.cuts.best_cuts.Given as goal

abbrev pub invariant-loop-m : goal.invariant-loop-m
invariant-loop-m l = l.m ≤ length l.gains - 60

abbrev pub decreases-loop-m : goal.decreases-loop-m
decreases-loop-m l = l.m
