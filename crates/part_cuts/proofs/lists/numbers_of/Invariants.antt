use Rattle.std.proofs.Common.{length}
use Rattle.part_cuts.specs.Divided.{AreNumbers}
use Rattle.part_cuts.proofs.lists.numbers_of.Given as goal

abbrev pub invariant-loop-j : goal.invariant-loop-j
invariant-loop-j l = AreNumbers l.j (length l.cuts) l.numbers.items
