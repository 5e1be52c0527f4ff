use Rattle.crew_io.specs.Chains.{puts_then}
use Rattle.each_out.specs.Laws.{cut_first}
use Rattle.plan_chart.proofs.titles.put_work.Goals as goal

pub returns-in_err-put_what : goal.returns-in_err-put_what
returns-in_err-put_what g c = cut_first g.K.Sink _ _ _ _ _ c.from_residual.result c.from_residual.ensures.0 c.in_err-put_what.ensures

pub returns : goal.returns
returns g c = puts_then g.K.Sink _ _ _ _ _ _ _ c.in_ok-put_what.ensures c.put_when.ensures
