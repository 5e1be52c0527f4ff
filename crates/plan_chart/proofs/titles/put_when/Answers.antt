use Rattle.std.proofs.Common.{refl}
use Rattle.each_out.specs.Laws.{puts_as}
use Rattle.plan_chart.specs.Titles.{when_of}
use Rattle.plan_chart.proofs.titles.put_when.Goals as goal

pub returns : goal.returns
unfolding when_of
returns g c = puts_as g.K.Sink _ _ _ _ _ c.put_pieces.ensures (rw (c.clock-begins.ensures, c.clock-ends.ensures) refl)
