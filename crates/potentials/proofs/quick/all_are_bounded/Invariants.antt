use Rattle.potentials.specs.Quick.{AreBoundedBelow}
use Rattle.potentials.proofs.quick.all_are_bounded.Given as goal

abbrev pub invariant-loop-h : goal.invariant-loop-h
invariant-loop-h l = AreBoundedBelow l.instance l.ahead l.records l.h
