use Rattle.std.proofs.Common.{refl}
use Rattle.each_out.specs.Laws.{puts_as}
use Rattle.plan_chart.specs.RowTexts.{open_what}
use Rattle.plan_chart.proofs.opens.put_what.Goals as goal

pub returns : goal.returns
unfolding open_what
returns g c = puts_as g.K.Sink _ _ _ _ _ c.put_pieces.ensures (rw (c.bytes.ensures.bytes, c.bytes-2.ensures.bytes) refl)
