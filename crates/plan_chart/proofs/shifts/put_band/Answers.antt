use Rattle.std.proofs.Common.{refl}
use Rattle.each_out.specs.Laws.{puts_as}
use Rattle.plan_chart.specs.RowTexts.{band_of}
use Rattle.plan_chart.proofs.shifts.put_band.Goals as goal

pub returns : goal.returns
unfolding band_of
returns g c = puts_as g.K.Sink _ _ _ _ _ c.put_pieces.ensures (rw (c.bytes.ensures.bytes, c.bytes-2.ensures.bytes, c.saturating_sub-minutes.ensures) refl)
