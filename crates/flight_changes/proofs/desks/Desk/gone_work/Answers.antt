use Rattle.std.proofs.Common.{Some, filter, sym, ap, ◌∙◌}
use Rattle.std.specs.Prelude.{option_copied, option_map}
use Rattle.day_terms.specs.Refusal.{gone_work}
use Rattle.day_terms.specs.State.{NamedJob}
use Rattle.day_terms.specs.Work.{first_by_task, needs_team}
use Rattle.day_terms.specs.declared.Entry.TheVariants.{Sick}
use Rattle.flight_changes.proofs.Entries.{same_first}
use Rattle.flight_changes.proofs.desks.Desk.gone_work.Goals as goal

pub returns-in_ok-first_job_with-in-Sick : goal.returns-in_ok-first_job_with-in-Sick
returns-in_ok-first_job_with-in-Sick c =
    let lists = c.self.inside.lists in
    let last = c.self.inside.last_plan.items in
    let frozen = c.self.inside.frozen.items in
    let team = c.in-Sick.team in
    let found = ap option_copied (sym c.in_ok-first_job_with-in-Sick.was) ∙ c.first_job_with.ensures ∙ ap (λ jobs. first_by_task lists (filter (needs_team team) jobs)) c.deref-in-Sick.ensures.value in
    ap Some c.task-in-Sick.ensures
    ∙ ap (option_map (λ (job : NamedJob). job.task)) (found ∙ sym (same_first lists last frozen (filter (needs_team team) frozen)))
    ∙ ap (λ s. gone_work s (Sick team)) c.self.view_is
    ∙ ap (gone_work c.args.self.now) (sym c.in-Sick.is)
