use Rattle.delay_wave.proofs.Told.{AreToldBy}
use Rattle.delay_wave.proofs.lates.told_ends.Given as goal

abbrev pub invariant-loop-late : goal.invariant-loop-late
invariant-loop-late l = AreToldBy l.lates l.late-index l.tasks l.ends.items
