use Rattle.std.proofs.Common.{take}
use Rattle.std.specs.Prelude.{All}
use Rattle.potentials.specs.Ahead.{AllowsFall}
use Rattle.potentials.proofs.ahead.allows.Given as goal

abbrev pub invariant-loop-fall : goal.invariant-loop-fall
invariant-loop-fall l = All (AllowsFall l.list l.task l.reward l.away) (take l.fall-index l.falls)
