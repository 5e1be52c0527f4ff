use Rattle.std.proofs.Common.{refl}
use Rattle.each_out.specs.Laws.{puts_as}
use Rattle.plan_chart.specs.Headings.{counts_line}
use Rattle.plan_chart.proofs.headings.put_counts.Goals as goal

pub returns : goal.returns
unfolding counts_line
returns g c = puts_as g.K.Sink _ _ _ _ _ c.put_pieces.ensures refl
