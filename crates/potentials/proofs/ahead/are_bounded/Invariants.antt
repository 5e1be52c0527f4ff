use Rattle.std.proofs.Common.{take}
use Rattle.std.specs.Prelude.{All}
use Rattle.potentials.specs.Ahead.{IsBounded}
use Rattle.potentials.proofs.ahead.are_bounded.Given as goal

abbrev pub invariant-loop-visit : goal.invariant-loop-visit
invariant-loop-visit l = All (IsBounded l.list l.task) (take l.visit-index l.records)
