use Rattle.std.proofs.Common.{take}
use Rattle.std.specs.Prelude.{map}
use Rattle.cert_write.specs.Causes.{cause_of}
use Rattle.written_laws.specs.Told.{AreTold}
use Rattle.written_laws.proofs.telling.told_causes.Given as goal

abbrev pub invariant-loop-i : goal.invariant-loop-i
invariant-loop-i l = AreTold (take l.i l.causes) (map cause_of l.told.items)
