use Rattle.std.proofs.Common.{ap, ◌∙◌}
use Rattle.crew_io.specs.Chains.{puts_then}
use Rattle.each_out.specs.Laws.{cut_first_of_three, cut_second_of_three, puts_as}
use Rattle.crew_terms.specs.Plan.{unassigned_count}
use Rattle.plan_chart.specs.Charts.{chart_text}
use Rattle.plan_chart.specs.Headings.{heading_of}
use Rattle.plan_chart.proofs.charts.put_chart.Goals as goal

pub returns-in_err-put_heading : goal.returns-in_err-put_heading
unfolding chart_text
returns-in_err-put_heading g c =
    cut_first_of_three g.K.Sink _ _ _ _ _ _ c.from_residual.result c.from_residual.ensures.0
    (puts_as g.K.Sink _ _ _ _ _ c.in_err-put_heading.ensures
    (ap (λ u. heading_of c.args.round u c.tasks-tasks.result c.args.bound c.args.before.now c.args.now.now) c.unassigned-open.ensures
    ∙ ap (λ n. heading_of c.args.round (unassigned_count c.args.plan.now) n c.args.bound c.args.before.now c.args.now.now) c.tasks-tasks.ensures.count))

pub returns-in_err-put_drawing : goal.returns-in_err-put_drawing
unfolding chart_text
returns-in_err-put_drawing g c =
    cut_second_of_three g.K.Sink _ _ _ _ _ _ _ _ c.from_residual-in_err-put_drawing.result c.from_residual-in_err-put_drawing.ensures.0
    (puts_as g.K.Sink _ _ _ _ _ c.in_ok-put_heading.ensures
    (ap (λ u. heading_of c.args.round u c.tasks-tasks.result c.args.bound c.args.before.now c.args.now.now) c.unassigned-open.ensures
    ∙ ap (λ n. heading_of c.args.round (unassigned_count c.args.plan.now) n c.args.bound c.args.before.now c.args.now.now) c.tasks-tasks.ensures.count))
    c.in_err-put_drawing.ensures

pub returns : goal.returns
unfolding chart_text
returns g c =
    puts_then g.K.Sink _ _ _ _ _ _ _
    (puts_then g.K.Sink _ _ _ _ _ _ _
    (puts_as g.K.Sink _ _ _ _ _ c.in_ok-put_heading.ensures
    (ap (λ u. heading_of c.args.round u c.tasks-tasks.result c.args.bound c.args.before.now c.args.now.now) c.unassigned-open.ensures
    ∙ ap (λ n. heading_of c.args.round (unassigned_count c.args.plan.now) n c.args.bound c.args.before.now c.args.now.now) c.tasks-tasks.ensures.count))
    c.in_ok-put_drawing.ensures)
    c.put_chart_end.ensures
