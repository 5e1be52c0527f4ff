use Rattle.std.proofs.Common.{◌*◌, ap}
use Rattle.std.specs.List.{flat_map, range_with_len}
use Rattle.crew_io.specs.Chains.{puts_then}
use Rattle.each_out.specs.Laws.{cut_first_of_three, cut_second_of_three, puts_as}
use Rattle.plan_chart.specs.RowTexts.{link_text, shift_row}
use Rattle.plan_chart.specs.Drawings.{ground_of}
use Rattle.plan_chart.proofs.drawings.put_ground.Goals as goal

pub returns-in_err-put_numbered : goal.returns-in_err-put_numbered
unfolding ground_of
returns-in_err-put_numbered g c =
    cut_first_of_three g.K.Sink _ _ _ _ _ _ c.from_residual.result c.from_residual.ensures.0
    (puts_as g.K.Sink _ _ _ _ _ c.in_err-put_numbered.ensures
    (ap (λ n. flat_map (shift_row c.args.instance.now (c.args.hours.first * 60)) (range_with_len 0 n)) c.teams.ensures.count))

pub returns-in_err-put_hours : goal.returns-in_err-put_hours
unfolding ground_of
returns-in_err-put_hours g c =
    cut_second_of_three g.K.Sink _ _ _ _ _ _ _ _ c.from_residual-in_err-put_hours.result c.from_residual-in_err-put_hours.ensures.0
    (puts_as g.K.Sink _ _ _ _ _ c.in_ok-put_numbered.ensures
    (ap (λ n. flat_map (shift_row c.args.instance.now (c.args.hours.first * 60)) (range_with_len 0 n)) c.teams.ensures.count))
    c.in_err-put_hours.ensures

pub returns : goal.returns
unfolding ground_of
returns g c =
    puts_then g.K.Sink _ _ _ _ _ _ _
    (puts_then g.K.Sink _ _ _ _ _ _ _
    (puts_as g.K.Sink _ _ _ _ _ c.in_ok-put_numbered.ensures
    (ap (λ n. flat_map (shift_row c.args.instance.now (c.args.hours.first * 60)) (range_with_len 0 n)) c.teams.ensures.count))
    c.in_ok-put_hours.ensures)
    (puts_as g.K.Sink _ _ _ _ _ c.put_numbered-2.ensures (ap (λ n. flat_map (link_text c.args.plan.now) (range_with_len 0 n)) c.len.ensures.count))
