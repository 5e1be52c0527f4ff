use Rattle.std.proofs.Common.{take}
use Rattle.delay_wave.specs.Ends.{AreLates}
use Rattle.delay_wave.proofs.lates.are_lates.Given as goal

abbrev pub invariant-loop-n : goal.invariant-loop-n
invariant-loop-n l = AreLates l.plan (take l.n l.lates)
