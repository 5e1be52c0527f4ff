use Rattle.std.proofs.Common.{refl}
use Rattle.each_out.specs.Laws.{puts_as}
use Rattle.plan_chart.specs.RowTexts.{hour_line}
use Rattle.plan_chart.proofs.shifts.HourLinesWritesU32.write.Goals as goal

pub returns : goal.returns
unfolding hour_line
returns g c = puts_as g.K.Sink _ _ _ _ _ c.put_pieces.ensures (rw (c.clock-at.ensures) refl)
