use Rattle.std.proofs.Common.{refl}
use Rattle.each_out.specs.Laws.{puts_as}
use Rattle.plan_chart.specs.Charts.{chart_end}
use Rattle.plan_chart.proofs.charts.put_chart_end.Goals as goal

pub returns : goal.returns
unfolding chart_end
returns g c = puts_as g.K.Sink _ _ _ _ _ c.put_pieces.ensures refl
