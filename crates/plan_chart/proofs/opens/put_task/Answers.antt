use Rattle.std.proofs.Common.{[], List, ℕ, ap, ◌∙◌}
use Rattle.std.specs.Prelude.{slice_index_or}
use Rattle.crew_terms.specs.declared.Task.{Task}
use Rattle.each_out.specs.Laws.{puts_as}
use Rattle.plan_chart.specs.Rows.{open_top}
use Rattle.plan_chart.specs.RowTexts.{open_of, open_task}
use Rattle.plan_chart.proofs.opens.put_task.Goals as goal

pub returns : goal.returns
unfolding open_task
returns g c =
    let left = c.args.left in
    let i = c.args.instance.now in
    let top = open_top i c.args.plan.now c.args.j in
    puts_as g.K.Sink _ _ _ _ _ c.put_open.ensures
    (ap (λ t. open_of left t c.place.result.now c.task-task.result.now) c.open_top-top.ensures.top
    ∙ ap (λ (name : List ℕ). open_of left top name c.task-task.result.now) c.place.ensures.name
    ∙ ap (λ (t : Task). open_of left top (slice_index_or i.places t.place []) t) c.task-task.ensures.task)
