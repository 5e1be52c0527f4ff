use Rattle.std.proofs.Common.{refl}
use Rattle.each_out.specs.Laws.{puts_as}
use Rattle.plan_chart.specs.RowTexts.{open_when}
use Rattle.plan_chart.proofs.opens.put_when.Goals as goal

pub returns : goal.returns
unfolding open_when
returns g c = puts_as g.K.Sink _ _ _ _ _ c.put_pieces.ensures (rw (c.clock-earliest.ensures, c.clock-latest.ensures) refl)
