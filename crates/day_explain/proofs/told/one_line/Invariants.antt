use Rattle.crew_io.specs.Lines.{NoFeed}
use Rattle.day_explain.proofs.told.one_line.Given as goal

abbrev pub invariant-loop-byte : goal.invariant-loop-byte
invariant-loop-byte l = NoFeed l.line.items
