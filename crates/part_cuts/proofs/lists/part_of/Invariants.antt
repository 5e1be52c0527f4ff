use Rattle.std.proofs.Common.{◌≤◌, length}
use Rattle.part_cuts.proofs.lists.part_of.Given as goal

abbrev pub invariant-loop-k : goal.invariant-loop-k
invariant-loop-k l = l.part ≤ length l.cuts
