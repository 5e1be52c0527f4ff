use Rattle.crew_io.specs.Chains.{puts_then}
use Rattle.each_out.specs.Laws.{cut_first_of_three, cut_second_of_three}
use Rattle.plan_chart.proofs.headings.put_heading.Goals as goal

pub returns-in_err-put_open : goal.returns-in_err-put_open
returns-in_err-put_open g c = cut_first_of_three g.K.Sink _ _ _ _ _ _ c.from_residual.result c.from_residual.ensures.0 c.in_err-put_open.ensures

pub returns-in_err-put_proof : goal.returns-in_err-put_proof
returns-in_err-put_proof g c =
    cut_second_of_three g.K.Sink _ _ _ _ _ _ _ _ c.from_residual-in_err-put_proof.result c.from_residual-in_err-put_proof.ensures.0 c.in_ok-put_open.ensures c.in_err-put_proof.ensures

pub returns : goal.returns
returns g c = puts_then g.K.Sink _ _ _ _ _ _ _ (puts_then g.K.Sink _ _ _ _ _ _ _ c.in_ok-put_open.ensures c.in_ok-put_proof.ensures) c.put_since.ensures
