use Rattle.crew_io.specs.Chains.{puts_then}
use Rattle.each_out.specs.Laws.{cut_first}
use Rattle.day_explain.proofs.text.put_remarks.Goals as goal

pub returns-in_err-put_plan : goal.returns-in_err-put_plan
returns-in_err-put_plan g c = cut_first g.K.Sink _ _ _ _ _ c.from_residual.result c.from_residual.ensures.0 c.in_err-put_plan.ensures

pub returns : goal.returns
returns g c = puts_then g.K.Sink _ _ _ _ _ _ _ c.in_ok-put_plan.ensures c.put_frozen.ensures
