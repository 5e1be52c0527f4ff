use Rattle.crew_io.specs.Chains.{puts_then}
use Rattle.each_out.specs.Laws.{cut_first_of_three, cut_second_of_three}
use Rattle.plan_chart.proofs.jobs.put_job.Goals as goal

pub put_each-requires : goal.put_each-requires
put_each-requires g c = λ n d within. (c.requires.known n d within, c.requires.task, c.requires.whole)

pub returns-in_err-put_title : goal.returns-in_err-put_title
returns-in_err-put_title g c = cut_first_of_three g.K.Sink _ _ _ _ _ _ c.from_residual.result c.from_residual.ensures.0 c.in_err-put_title.ensures

pub returns-in_err-put_each : goal.returns-in_err-put_each
returns-in_err-put_each g c =
    cut_second_of_three g.K.Sink _ _ _ _ _ _ _ _ c.from_residual-in_err-put_each.result c.from_residual-in_err-put_each.ensures.0 c.in_ok-put_title.ensures c.in_err-put_each.ensures

pub returns : goal.returns
returns g c = puts_then g.K.Sink _ _ _ _ _ _ _ (puts_then g.K.Sink _ _ _ _ _ _ _ c.in_ok-put_title.ensures c.in_ok-put_each.ensures) c.put_all.ensures.puts
