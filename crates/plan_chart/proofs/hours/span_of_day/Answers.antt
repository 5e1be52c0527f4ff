use Rattle.std.proofs.Common.{◌+◌, ap, sym, ◌∙◌, add-one}
use Rattle.crew_terms.specs.declared.Task.{Task}
use Rattle.plan_chart.specs.Hours.{widened, windows_span}
use Rattle.plan_chart.specs.declared.hours.Span.{Span}
use Rattle.plan_chart.proofs.hours.span_of_day.Goals as goal

pub loop-j-preserved : goal.loop-j-preserved
loop-j-preserved c =
    let i = c.args.instance.now in
    let j = c.loop-j.j in
    let t = c.task-task.result.now in
    c.widen-span.ensures
    ∙ ap (λ (s : Span). widened s t.earliest (t.latest + t.minutes)) c.loop-j.invariant
    ∙ ap (λ (x : Task). widened (windows_span i j) x.earliest (x.latest + x.minutes)) c.task-task.ensures.task
    ∙ sym (ap (windows_span i) (add-one j))
