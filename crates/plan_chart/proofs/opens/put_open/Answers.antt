use Rattle.crew_io.specs.Chains.{puts_then}
use Rattle.each_out.specs.Laws.{cut_first_of_three, cut_second_of_three}
use Rattle.plan_chart.proofs.opens.put_open.Goals as goal

pub returns-in_err-put_what : goal.returns-in_err-put_what
returns-in_err-put_what g c = cut_first_of_three g.K.Sink _ _ _ _ _ _ c.from_residual.result c.from_residual.ensures.0 c.in_err-put_what.ensures

pub returns-in_err-put_when : goal.returns-in_err-put_when
returns-in_err-put_when g c =
    cut_second_of_three g.K.Sink _ _ _ _ _ _ _ _ c.from_residual-in_err-put_when.result c.from_residual-in_err-put_when.ensures.0 c.in_ok-put_what.ensures c.in_err-put_when.ensures

pub returns : goal.returns
returns g c = puts_then g.K.Sink _ _ _ _ _ _ _ (puts_then g.K.Sink _ _ _ _ _ _ _ c.in_ok-put_what.ensures c.in_ok-put_when.ensures) c.put_bar.ensures
