use Rattle.std.proofs.Common.{refl}
use Rattle.each_out.specs.Laws.{puts_as}
use Rattle.plan_chart.specs.Bars.{way_of}
use Rattle.plan_chart.proofs.bars.put_way.Goals as goal

pub returns : goal.returns
unfolding way_of
returns g c = puts_as g.K.Sink _ _ _ _ _ c.put_pieces.ensures (rw (c.saturating_sub-from.ensures) refl)
