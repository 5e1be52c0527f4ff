use Rattle.std.proofs.Common.{◌≤◌, ◌+◌, [], List, ℕ, ap, sym, subst, ◌∙◌}
use Rattle.std.specs.Prelude.{slice_index_or}
use Rattle.crew_io.specs.Chains.{puts_then}
use Rattle.crew_terms.specs.declared.Task.{Task}
use Rattle.crew_terms.specs.declared.TheConstants.{LAST_MINUTE}
use Rattle.each_out.specs.Laws.{cut_first_of_three, cut_second_of_three, puts_as}
use Rattle.plan_chart.specs.Titles.{work_of}
use Rattle.plan_chart.proofs.titles.put_title.Goals as goal

pub put_work-requires : goal.put_work-requires
put_work-requires g c = subst (λ (t : Task). c.args.start + t.minutes ≤ LAST_MINUTE) (sym c.task-task.ensures.task) c.requires.day

pub returns-in_err-put_work : goal.returns-in_err-put_work
returns-in_err-put_work g c =
    let look = c.args.look in
    let places = c.args.instance.now.places in
    cut_first_of_three g.K.Sink _ _ _ _ _ _ c.from_residual.result c.from_residual.ensures.0
    (puts_as g.K.Sink _ _ _ _ _ c.in_err-put_work.ensures
    (ap (λ (name : List ℕ). work_of look name c.task-task.result.now c.args.start) c.place.ensures.name
    ∙ ap (λ (t : Task). work_of look (slice_index_or places t.place []) t c.args.start) c.task-task.ensures.task))

pub returns-in_err-put_each : goal.returns-in_err-put_each
returns-in_err-put_each g c =
    let look = c.args.look in
    let places = c.args.instance.now.places in
    cut_second_of_three g.K.Sink _ _ _ _ _ _ _ _ c.from_residual-in_err-put_each.result c.from_residual-in_err-put_each.ensures.0
    (puts_as g.K.Sink _ _ _ _ _ c.in_ok-put_work.ensures
    (ap (λ (name : List ℕ). work_of look name c.task-task.result.now c.args.start) c.place.ensures.name
    ∙ ap (λ (t : Task). work_of look (slice_index_or places t.place []) t c.args.start) c.task-task.ensures.task))
    c.in_err-put_each.ensures

pub returns : goal.returns
returns g c =
    let look = c.args.look in
    let places = c.args.instance.now.places in
    puts_then g.K.Sink _ _ _ _ _ _ _
    (puts_then g.K.Sink _ _ _ _ _ _ _
    (puts_as g.K.Sink _ _ _ _ _ c.in_ok-put_work.ensures
    (ap (λ (name : List ℕ). work_of look name c.task-task.result.now c.args.start) c.place.ensures.name
    ∙ ap (λ (t : Task). work_of look (slice_index_or places t.place []) t c.args.start) c.task-task.ensures.task))
    c.in_ok-put_each.ensures)
    c.put_ending.ensures
