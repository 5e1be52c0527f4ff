use Rattle.std.proofs.Common.{refl}
use Rattle.each_out.specs.Laws.{puts_as}
use Rattle.plan_chart.specs.Bars.{box_of}
use Rattle.plan_chart.proofs.bars.put_box.Goals as goal

pub returns : goal.returns
unfolding box_of
returns g c = puts_as g.K.Sink _ _ _ _ _ c.put_pieces.ensures (rw (c.sign_fixed.ensures, c.bytes.ensures.bytes, c.sign_change.ensures) refl)
