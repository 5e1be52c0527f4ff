use Rattle.std.proofs.Common.{Some, sym, ap, ◌∙◌}
use Rattle.flight_changes.proofs.NamedJobs.{IsVerdictOf, is_faulty, none_is_faulty, plan_is_of, task_below}
use Rattle.flight_changes.proofs.lists.Lists.faulty_job_in.Goals as goal

pub feasibility-requires : goal.feasibility-requires
feasibility-requires c = plan_is_of c.args.self.now c.args.jobs.now c.args.instance.now c.in_ok-plan.plan c.requires.known c.requires.instance c.in_ok-plan.ensures

pub task-requires : goal.task-requires
task-requires c =
    let is : IsVerdictOf c.args.self.now c.args.jobs.now c.args.instance.now c.in_ok-plan.plan c.feasibility.result =
    record { known = c.requires.known; instance = c.requires.instance; plan = c.in_ok-plan.ensures; verdict = c.feasibility.ensures.verdict } in
    task_below is c.first_fault_is_told.ensures.fault c.in-Some.j (sym c.task_of_verdict.ensures ∙ c.in-Some.is)

pub returns-in-Some-clause-task : goal.returns-in-Some-clause-task
returns-in-Some-clause-task c =
    let is : IsVerdictOf c.args.self.now c.args.jobs.now c.args.instance.now c.in_ok-plan.plan c.feasibility.result =
    record { known = c.requires.known; instance = c.requires.instance; plan = c.in_ok-plan.ensures; verdict = c.feasibility.ensures.verdict } in
    ap (λ t. Some t.name) c.task.ensures.task
    ∙ sym (is_faulty is c.first_fault_is_told.ensures.fault c.in-Some.j (sym c.task_of_verdict.ensures ∙ c.in-Some.is))

pub returns-clause-task : goal.returns-clause-task
returns-clause-task c =
    let is : IsVerdictOf c.args.self.now c.args.jobs.now c.args.instance.now c.in_ok-plan.plan c.feasibility.result =
    record { known = c.requires.known; instance = c.requires.instance; plan = c.in_ok-plan.ensures; verdict = c.feasibility.ensures.verdict } in
    sym (none_is_faulty is c.first_fault_is_told.ensures.fault (sym c.task_of_verdict.ensures ∙ c.in-None.is))
