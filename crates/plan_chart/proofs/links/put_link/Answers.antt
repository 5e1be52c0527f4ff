use Rattle.std.proofs.Common.{refl}
use Rattle.each_out.specs.Laws.{puts_as}
use Rattle.plan_chart.specs.RowTexts.{link_line}
use Rattle.plan_chart.proofs.links.put_link.Goals as goal

pub returns : goal.returns
unfolding link_line
returns g c = puts_as g.K.Sink _ _ _ _ _ c.put_pieces.ensures (rw (c.row_top-from.ensures.top, c.row_top-to.ensures.top) refl)
