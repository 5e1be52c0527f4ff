use Rattle.crew_io.specs.Chains.{puts_then}
use Rattle.each_out.specs.Laws.{cut_first}
use Rattle.plan_chart.specs.Pages.{empty_end}
use Rattle.plan_chart.proofs.pages.put_empty_end.Goals as goal

pub returns-in_err-put_all : goal.returns-in_err-put_all
unfolding empty_end
returns-in_err-put_all g c = cut_first g.K.Sink _ _ _ _ _ c.from_residual.result c.from_residual.ensures.0 c.in_err-put_all.ensures.puts

pub returns : goal.returns
unfolding empty_end
returns g c = puts_then g.K.Sink _ _ _ _ _ _ _ c.in_ok-put_all.ensures.puts c.put_all-2.ensures.puts
