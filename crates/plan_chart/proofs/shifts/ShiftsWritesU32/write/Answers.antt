use Rattle.std.proofs.Common.{ap, ◌∙◌}
use Rattle.crew_terms.specs.declared.Team.{Team}
use Rattle.each_out.specs.Laws.{puts_as}
use Rattle.plan_chart.specs.Rows.{row_top}
use Rattle.plan_chart.specs.RowTexts.{shift_of}
use Rattle.plan_chart.proofs.shifts.ShiftsWritesU32.write.Goals as goal

pub returns : goal.returns
returns g c =
    let left = c.args.self.now.left in
    puts_as g.K.Sink _ _ _ _ _ c.put_shift.ensures
    (ap (λ top. shift_of left top c.team.result.now) c.row_top.ensures.top ∙ ap (λ (t : Team). shift_of left (row_top c.args.item.now) t) c.team.ensures.team)
