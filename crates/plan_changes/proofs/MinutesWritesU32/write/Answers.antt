use Rattle.std.proofs.Common.{List, ap, ◌∙◌}
use Rattle.std.specs.List.{flat_map}
use Rattle.crew_io.specs.Chains.{puts_then}
use Rattle.each_out.specs.Laws.{cut_first, puts_as}
use Rattle.round_changes.specs.Named.{JobByNames}
use Rattle.plan_changes.specs.Changes.{gone_text_at, job_text_at, minute_text}
use Rattle.plan_changes.proofs.MinutesWritesU32.write.Goals as goal

pub returns-in_err-put_each : goal.returns-in_err-put_each
unfolding minute_text
returns-in_err-put_each g c =
    let m = c.args.item.now in
    cut_first g.K.Sink _ _ _ _ _ c.from_residual.result c.from_residual.ensures.0
    (puts_as g.K.Sink _ _ _ _ _ c.in_err-put_each.ensures
    (ap (λ (js : List JobByNames). flat_map (job_text_at js m) c.jobs.result.now) c.jobs-before.ensures ∙ ap (λ (js : List JobByNames). flat_map (job_text_at c.args.self.now.before.now.jobs m) js) c.jobs.ensures))

pub returns : goal.returns
unfolding minute_text
returns g c =
    let m = c.args.item.now in
    puts_then g.K.Sink _ _ _ _ _ _ _
    (puts_as g.K.Sink _ _ _ _ _ c.in_ok-put_each.ensures
    (ap (λ (js : List JobByNames). flat_map (job_text_at js m) c.jobs.result.now) c.jobs-before.ensures ∙ ap (λ (js : List JobByNames). flat_map (job_text_at c.args.self.now.before.now.jobs m) js) c.jobs.ensures))
    (puts_as g.K.Sink _ _ _ _ _ c.put_each-2.ensures (ap (λ (js : List JobByNames). flat_map (gone_text_at c.args.self.now.now.now m) js) c.jobs-before.ensures))
