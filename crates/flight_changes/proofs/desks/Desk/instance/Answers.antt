use Rattle.std.proofs.Common.{[], Ok, Err, sym, ap, subst, ◌∙◌}
use Rattle.std.proofs.lemmas.Result.{err_from_is_err_and}
use Rattle.crew_terms.specs.Instance.{Instance}
use Rattle.crew_terms.specs.Legal.{IsFeasible}
use Rattle.crew_terms.specs.Plan.{Plan}
use Rattle.day_terms.specs.Instances.{day_instance, plan_of_jobs}
use Rattle.day_terms.specs.Rounds.{first_missing}
use Rattle.flight_changes.specs.declared.faults.ChangeFault.TheVariants.{MissingTravel}
use Rattle.flight_changes.proofs.Refusals.{none_missing, same_fault, told_missing}
use Rattle.flight_changes.proofs.desks.Desk.instance.Goals as goal

pub returns-in_err-check_times-clause-missing : goal.returns-in_err-check_times-clause-missing
returns-in_err-check_times-clause-missing c from to missing =
    let p = err_from_is_err_and c.from_residual.result c.from_residual.ensures.1 in
    let told = told_missing c.self.inside.lists (Err c.in_err-check_times.field-0.0) 0 (c.in_err-check_times.ensures 0) from to (ap first_missing c.self.view_is ∙ missing) in
    rw (p.1, p.2) (ap Err (same_fault c.in_err-check_times.field-0.0 (MissingTravel from to) told))

pub returns-in_err-check_times-clause-whole : goal.returns-in_err-check_times-clause-whole
returns-in_err-check_times-clause-whole c none =
    let passed = none_missing c.self.inside.lists (Err c.in_err-check_times.field-0.0) 0 (c.in_err-check_times.ensures 0) (ap first_missing c.self.view_is ∙ none) in
    absurd (cc passed)

pub returns-in_err-instance-clause-missing : goal.returns-in_err-instance-clause-missing
returns-in_err-instance-clause-missing c from to missing =
    let told = told_missing c.self.inside.lists (Ok c.in_ok-check_times.field-0) 0 (c.in_ok-check_times.ensures 0) from to (ap first_missing c.self.view_is ∙ missing) in
    absurd (cc told)

pub returns-then-is_empty-clause-missing : goal.returns-then-is_empty-clause-missing
returns-then-is_empty-clause-missing c from to missing =
    let told = told_missing c.self.inside.lists (Ok c.in_ok-check_times.field-0) 0 (c.in_ok-check_times.ensures 0) from to (ap first_missing c.self.view_is ∙ missing) in
    absurd (cc told)

pub returns-in_err-frozen-clause-missing : goal.returns-in_err-frozen-clause-missing
returns-in_err-frozen-clause-missing c from to missing =
    let told = told_missing c.self.inside.lists (Ok c.in_ok-check_times.field-0) 0 (c.in_ok-check_times.ensures 0) from to (ap first_missing c.self.view_is ∙ missing) in
    absurd (cc told)

pub with_frozen-requires : goal.with_frozen-requires
with_frozen-requires c =
    let lists = c.self.inside.lists in
    let jobs = c.in_ok-frozen.ensures ∙ ap (plan_of_jobs lists) c.deref.ensures.value in
    subst (λ (i : Instance). IsFeasible i c.in_ok-frozen.frozen) (sym c.in_ok-instance.ensures)
    (subst (IsFeasible (day_instance (record lists { frozen = [] }))) (sym jobs) c.self.invariant.frozen.feasible)

pub returns-clause-ok : goal.returns-clause-ok
returns-clause-ok c =
    let lists = c.self.inside.lists in
    let jobs = c.in_ok-frozen.ensures ∙ ap (plan_of_jobs lists) c.deref.ensures.value in
    c.with_frozen.ensures
    ∙ ap (λ (i : Instance). record i { frozen = c.in_ok-frozen.frozen }) c.in_ok-instance.ensures
    ∙ ap (λ (p : Plan). record (day_instance (record lists { frozen = [] })) { frozen = p }) jobs
    ∙ ap day_instance c.self.view_is

pub returns-clause-missing : goal.returns-clause-missing
returns-clause-missing c from to missing =
    let told = told_missing c.self.inside.lists (Ok c.in_ok-check_times.field-0) 0 (c.in_ok-check_times.ensures 0) from to (ap first_missing c.self.view_is ∙ missing) in
    absurd (cc told)
