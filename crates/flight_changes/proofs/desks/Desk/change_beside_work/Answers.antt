use Rattle.std.proofs.Common.{inl, inr, refl, sym, ap, subst, ◌∙◌}
use Rattle.std.specs.Prelude.{All, option_map}
use Rattle.std.proofs.lemmas.Result.{err_from_is_err_and}
use Rattle.day_terms.specs.Entries.{after_entry}
use Rattle.day_terms.specs.Refusal.{gone_work, work_against}
use Rattle.day_terms.specs.Work.{faulty_job}
use Rattle.flight_changes.specs.Limits.{AreDoable, AreTeamsKnown}
use Rattle.flight_changes.specs.Named.{left_jobs}
use Rattle.flight_changes.specs.declared.faults.ChangeFault.TheVariants as told
use Rattle.flight_changes.proofs.Entries.{frozen_known, jobs_after, left_known, with_jobs, work_found}
use Rattle.flight_changes.proofs.desks.Desk.change_beside_work.Goals as goal

pub faulty_job-requires : goal.faulty_job-requires
faulty_job-requires c =
    let old = c.self.inside.lists in
    let entry = c.args.entry.now in
    let last = c.self.inside.last_plan.items in
    let frozen = c.self.inside.frozen.items in
    let none = ap (λ s. gone_work s entry) c.self.view_is ∙ sym c.gone_work.ensures ∙ c.in_default.is in
    let known = frozen_known old last frozen entry c.requires.lists none c.self.invariant.frozen.known in
    let here : All (AreTeamsKnown c.in_ok-lists.lists) frozen = subst (λ lists. All (AreTeamsKnown lists) frozen) (sym c.in_ok-lists.ensures) known in
    subst (All (AreTeamsKnown c.in_ok-lists.lists)) (sym c.deref.ensures.value) here

pub returns-in-Some-2-clause-told : goal.returns-in-Some-2-clause-told
returns-in-Some-2-clause-told c =
    let old = c.self.inside.lists in
    let entry = c.args.entry.now in
    let last = c.self.inside.last_plan.items in
    let frozen = c.self.inside.frozen.items in
    let none = ap (λ s. gone_work s entry) c.self.view_is ∙ sym c.gone_work.ensures ∙ c.in_default.is in
    let found = ap (λ lists. faulty_job lists frozen) (sym c.in_ok-lists.ensures) ∙ ap (faulty_job c.in_ok-lists.lists) (sym c.deref.ensures.value) ∙ sym c.in_ok-task.ensures.task in
    let work = ap (λ s. work_against s entry) (sym c.self.view_is) ∙ work_found old last frozen entry c.requires.lists none ∙ found in
    inr (ap (option_map told.FrozenWork) (work ∙ c.in-Some-2.is))

pub invariant_of-self : goal.invariant_of-self
invariant_of-self c =
    let old = c.self.inside.lists in
    let new = c.in_ok-lists.lists in
    let entry = c.args.entry.now in
    let last = c.self.inside.last_plan.items in
    let known : All (AreTeamsKnown (after_entry old entry)) (left_jobs entry last) = left_known old entry c.requires.lists last c.self.invariant.last_plan in
    let here : All (AreTeamsKnown new) (left_jobs entry last) = subst (λ lists. All (AreTeamsKnown lists) (left_jobs entry last)) (sym c.in_ok-lists.ensures) known in
    let d = subst (AreDoable new) c.deref.ensures.value (c.in_ok-task.ensures.doable c.in_default-2.is) in
    record {
      last_plan = subst (All (AreTeamsKnown new)) (sym c.end_jobs.ensures) here;
      frozen = record { known = d.known; feasible = d.feasible };
    }

pub returns-clause-taken : goal.returns-clause-taken
returns-clause-taken c =
    let old = c.self.inside.lists in
    let entry = c.args.entry.now in
    let last = c.self.inside.last_plan.items in
    let frozen = c.self.inside.frozen.items in
    let none = ap (λ s. gone_work s entry) c.self.view_is ∙ sym c.gone_work.ensures ∙ c.in_default.is in
    let found = ap (λ lists. faulty_job lists frozen) (sym c.in_ok-lists.ensures) ∙ ap (faulty_job c.in_ok-lists.lists) (sym c.deref.ensures.value) ∙ sym c.in_ok-task.ensures.task in
    ap (λ s. work_against s entry) (sym c.self.view_is) ∙ work_found old last frozen entry c.requires.lists none ∙ found ∙ c.in_default-2.is

pub returns-clause-ok : goal.returns-clause-ok
returns-clause-ok c =
    let old = c.self.inside.lists in
    let entry = c.args.entry.now in
    let last = c.self.inside.last_plan.items in
    let frozen = c.self.inside.frozen.items in
    ap (λ lists. with_jobs lists c.end_jobs.new.jobs.items frozen) c.in_ok-lists.ensures
    ∙ ap (λ jobs. with_jobs (after_entry old entry) jobs frozen) c.end_jobs.ensures
    ∙ sym (jobs_after old last frozen entry c.requires.lists)
    ∙ ap (λ s. after_entry s entry) c.self.view_is

pub returns-in_err-task-clause-told : goal.returns-in_err-task-clause-told
returns-in_err-task-clause-told c =
    let p = err_from_is_err_and c.from_residual-in_err-task.result c.from_residual-in_err-task.ensures.1 in
    rw (p.1, p.2) (inl refl)
