use Rattle.std.proofs.Common.{[], ap, sym, ◌∙◌}
use Rattle.std.specs.Prelude.{if◌then◌else◌}
use Rattle.crew_io.specs.Chains.{puts_done, puts_nothing}
use Rattle.each_out.specs.Laws.{puts_as}
use Rattle.round_changes.specs.Changes.{job_named}
use Rattle.plan_changes.specs.Changes.{job_text, job_text_at}
use Rattle.plan_changes.proofs.BegunWritesNamedJob.write.Goals as goal

pub returns-then-begins_at : goal.returns-then-begins_at
unfolding job_text_at
returns-then-begins_at g c =
    let before = c.args.self.now.before.now in
    let now = c.args.item.now in
    let e = c.job_named.ensures ∙ ap (job_named before) c.task.ensures in
    puts_as g.K.Sink _ _ _ _ _ c.put_job.ensures
    (ap (λ b. job_text b now) e ∙ sym (ap (λ b. if b then job_text (job_named before now.task) now else []) (sym c.begins_at.ensures ∙ c.if-begins_at.true)))

pub returns-else-begins_at : goal.returns-else-begins_at
unfolding job_text_at
returns-else-begins_at g c =
    let before = c.args.self.now.before.now in
    let now = c.args.item.now in
    puts_as g.K.Sink _ _ _ _ _ (puts_done g.K.Sink [] _ _ tt tt (puts_nothing g.K.Sink c.args.out.now))
    (sym (ap (λ b. if b then job_text (job_named before now.task) now else []) (sym c.begins_at.ensures ∙ c.if-begins_at.false)))
