use Rattle.std.proofs.Common.{◌≤◌, ◌-◌, ap, sym, subst, ◌∙◌}
use Rattle.dossier_terms.specs.Reading.{Plans}
use Rattle.dossier_terms.specs.Table.{Says}
use Rattle.dossier_terms.specs.BodyTable.{after_job, plan_row}
use Rattle.cert_checker.specs.Due.{Tells, draft_of}
use Rattle.cert_checker.specs.declared.due.BegunDossier.{BegunDossier as Kept}
use Rattle.cert_checker.proofs.Steps.{tells_row}
use Rattle.cert_checker.proofs.PlanRows.{plan_says}
use Rattle.cert_checker.proofs.plan.plan_line.Goals as goal

pub returns : goal.returns
returns c = λ reading a.
    let h = c.in_ok-unassigned.ensures in
    let u = c.in_ok-unassigned.field-0.unassigned in
    let l = c.in_ok-unassigned.field-0.bound in
    let b : Kept = c.deref_mut-held.result.now in
    let size = c.tasks-tasks.ensures.count in
    let rules = after_job (record (draft_of b) { bound = l }) (c.tasks-tasks.result - u) 0 in
    subst (λ r. Tells (Says r c.args.words) c.judge_job.result) (sym (a.1 ∙ ap (λ (d : Kept). Plans (draft_of d)) (sym c.deref_mut-held.ensures.value)))
    (tells_row rules (plan_row (draft_of b) c.args.words) c.judge_job.result
    (λ said rest. plan_says (draft_of b) u l c.args.words said (subst (λ n. u ≤ n) size h.0) (subst (λ n. l ≤ n) size h.1) h.2
    (subst (λ n. after_job (record (draft_of b) { bound = l }) (n - u) 0 said) size rest))
    c.judge_job.ensures)
