use Rattle.std.proofs.Common.{filter, inr, not, sym, ap, subst, ◌∙◌}
use Rattle.std.specs.Prelude.{All, option_map}
use Rattle.std.proofs.lemmas.List.Elements.{All-filter}
use Rattle.day_terms.specs.Entries.{after_entry}
use Rattle.day_terms.specs.Refusal.{faulty_work}
use Rattle.day_terms.specs.State.{NamedJob}
use Rattle.day_terms.specs.Work.{faulty_job, is_job_of}
use Rattle.day_terms.specs.declared.Entry.TheVariants.{Thaw}
use Rattle.flight_changes.specs.Kept.{state_of}
use Rattle.flight_changes.specs.Limits.{AreDoable, AreTeamsKnown}
use Rattle.flight_changes.specs.declared.faults.ChangeFault.TheVariants as told
use Rattle.flight_changes.proofs.desks.Desk.thaw.Goals as goal

pub faulty_job-requires : goal.faulty_job-requires
faulty_job-requires c =
    let lists = c.self.inside.lists in
    let other = λ (job : NamedJob). not (is_job_of c.args.task.now job) in
    let left = c.deref-2.ensures.value ∙ c.end_jobs_of.ensures ∙ ap (filter other) (c.in_ok-frozen.ensures ∙ c.deref.ensures.value) in
    subst (All (AreTeamsKnown lists)) (sym left) (All-filter other (AreTeamsKnown lists) c.self.inside.frozen.items c.self.invariant.frozen.known)

pub returns-in-Some-clause-told : goal.returns-in-Some-clause-told
returns-in-Some-clause-told c =
    let thaw = Thaw c.args.task.now in
    let other = λ (job : NamedJob). not (is_job_of c.args.task.now job) in
    let left = c.deref-2.ensures.value ∙ c.end_jobs_of.ensures ∙ ap (filter other) (c.in_ok-frozen.ensures ∙ c.deref.ensures.value) in
    let work = ap (λ s. faulty_work (after_entry s thaw)) (sym c.self.view_is) ∙ ap (faulty_job c.self.inside.lists) (sym left) ∙ sym c.in_ok-task.ensures.task in
    inr (ap (option_map told.FrozenWork) (work ∙ c.in-Some.is))

pub invariant_of-self : goal.invariant_of-self
invariant_of-self c =
    let d = subst (AreDoable c.self.inside.lists) c.deref-2.ensures.value (c.in_ok-task.ensures.doable c.in_default.is) in
    record { last_plan = c.self.invariant.last_plan; frozen = record { known = d.known; feasible = d.feasible } }

pub returns-clause-taken : goal.returns-clause-taken
returns-clause-taken c =
    let thaw = Thaw c.args.task.now in
    let other = λ (job : NamedJob). not (is_job_of c.args.task.now job) in
    let left = c.deref-2.ensures.value ∙ c.end_jobs_of.ensures ∙ ap (filter other) (c.in_ok-frozen.ensures ∙ c.deref.ensures.value) in
    ap (λ s. faulty_work (after_entry s thaw)) (sym c.self.view_is) ∙ ap (faulty_job c.self.inside.lists) (sym left) ∙ sym c.in_ok-task.ensures.task ∙ c.in_default.is

pub returns-clause-ok : goal.returns-clause-ok
returns-clause-ok c =
    let s = state_of c.self.inside in
    let other = λ (job : NamedJob). not (is_job_of c.args.task.now job) in
    let left = c.end_jobs_of.ensures ∙ ap (filter other) (c.in_ok-frozen.ensures ∙ c.deref.ensures.value) in
    ap (λ jobs. record s { frozen = jobs }) left ∙ ap (λ s. after_entry s (Thaw c.args.task.now)) c.self.view_is
