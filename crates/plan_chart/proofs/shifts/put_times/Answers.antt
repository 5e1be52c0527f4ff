use Rattle.std.proofs.Common.{refl}
use Rattle.each_out.specs.Laws.{puts_as}
use Rattle.plan_chart.specs.RowTexts.{shift_times}
use Rattle.plan_chart.proofs.shifts.put_times.Goals as goal

pub returns : goal.returns
unfolding shift_times
returns g c = puts_as g.K.Sink _ _ _ _ _ c.put_pieces.ensures (rw (c.clock-from.ensures, c.clock-until.ensures) refl)
