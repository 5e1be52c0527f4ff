use Rattle.std.proofs.Common.{ap, sym, ◌∙◌, add-one}
use Rattle.crew_terms.specs.declared.Team.{Team}
use Rattle.plan_chart.specs.Hours.{shifts_span, widened}
use Rattle.plan_chart.specs.declared.hours.Span.{Span}
use Rattle.plan_chart.proofs.hours.span_of_shifts.Goals as goal

pub loop-k-preserved : goal.loop-k-preserved
loop-k-preserved c =
    let i = c.args.instance.now in
    let k = c.loop-k.k in
    let t = c.team-team.result.now in
    c.widen-span.ensures
    ∙ ap (λ (s : Span). widened s t.from t.until) c.loop-k.invariant
    ∙ ap (λ (x : Team). widened (shifts_span i k) x.from x.until) c.team-team.ensures.team
    ∙ sym (ap (shifts_span i) (add-one k))
