use Rattle.potentials.proofs.Rising.{RisingBelow}
use Rattle.potentials.proofs.ahead.are_rising.Given as goal

abbrev pub invariant-loop-i : goal.invariant-loop-i
invariant-loop-i l = RisingBelow l.list l.i
