use Rattle.std.proofs.Common.{ap}
use Rattle.crew_io.specs.Chains.{puts_then}
use Rattle.each_out.specs.Laws.{cut_first_of_three, cut_second_of_three, puts_as}
use Rattle.day_explain.specs.Text.{apply_text, explanation}
use Rattle.day_explain.proofs.text.put_explanation.Goals as goal

pub returns-in_err-put_each : goal.returns-in_err-put_each
unfolding explanation
returns-in_err-put_each g c = cut_first_of_three g.K.Sink _ _ _ _ _ _ c.from_residual.result c.from_residual.ensures.0 c.in_err-put_each.ensures

pub returns-in_err-put_remarks : goal.returns-in_err-put_remarks
unfolding explanation
returns-in_err-put_remarks g c =
    cut_second_of_three g.K.Sink _ _ _ _ _ _ _ _ c.from_residual-in_err-put_remarks.result c.from_residual-in_err-put_remarks.ensures.0 c.in_ok-put_each.ensures c.in_err-put_remarks.ensures

pub returns : goal.returns
unfolding explanation
returns g c =
    puts_then g.K.Sink _ _ _ _ _ _ _ (puts_then g.K.Sink _ _ _ _ _ _ _ c.in_ok-put_each.ensures c.in_ok-put_remarks.ensures)
    (puts_as g.K.Sink _ _ _ _ _ c.put_apply.ensures (ap apply_text c.first.ensures))
