use Rattle.std.proofs.Common.{refl}
use Rattle.each_out.specs.Laws.{puts_as}
use Rattle.plan_chart.specs.Headings.{gap_text}
use Rattle.plan_chart.proofs.headings.put_gap.Goals as goal

pub returns : goal.returns
unfolding gap_text
returns g c = puts_as g.K.Sink _ _ _ _ _ c.put_pieces.ensures refl
