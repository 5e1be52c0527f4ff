use Rattle.potentials.proofs.ByPlace.{ByPlaceBelow}
use Rattle.potentials.proofs.quick.holds_quickly.Given as goal

abbrev pub invariant-loop-j : goal.invariant-loop-j
invariant-loop-j l = ByPlaceBelow l.limits.limits l.k l.prices l.worth l.records l.ahead.items l.j
