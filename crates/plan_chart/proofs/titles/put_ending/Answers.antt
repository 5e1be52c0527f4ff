use Rattle.std.proofs.Common.{refl}
use Rattle.each_out.specs.Laws.{puts_as}
use Rattle.plan_chart.specs.Titles.{ending_of}
use Rattle.plan_chart.proofs.titles.put_ending.Goals as goal

pub returns : goal.returns
unfolding ending_of
returns g c = puts_as g.K.Sink _ _ _ _ _ c.put_pieces.ensures (rw (c.said_fixed.ensures, c.said_change.ensures) refl)
