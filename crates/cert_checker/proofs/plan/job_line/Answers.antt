use Rattle.std.proofs.Common.{◌≡◌, ◌+◌, suc, length, ap, sym, subst, refl, ◌∙◌, arith, Some}
use Rattle.std.proofs.lemmas.Result.{err_from_is_err_and}
use Rattle.std.specs.Prelude.{slice_set}
use Rattle.crew_terms.specs.Plan.{Job}
use Rattle.crew_terms.specs.Verdict.{IsPlanOf}
use Rattle.crew_terms.specs.declared.TheConstants.{MOST_TEAMS}
use Rattle.dossier_terms.specs.declared.Reason.TheVariants as reasons
use Rattle.dossier_terms.specs.Reading.{Jobs, No as Refuses}
use Rattle.dossier_terms.specs.Rules.{Holds, Fails}
use Rattle.dossier_terms.specs.Ranges.{IsDoLine}
use Rattle.dossier_terms.specs.Table.{Says}
use Rattle.dossier_terms.specs.BodyTable.{after_job, job_row}
use Rattle.head_check.specs.Numbers.{AreBelow, naturals}
use Rattle.head_check.specs.NumbersBack.{naturals-pos}
use Rattle.cert_checker.specs.Due.{IsBegun, IsStep, Tells, draft_of}
use Rattle.cert_checker.specs.declared.due.BegunDossier.{BegunDossier}
use Rattle.cert_checker.specs.declared.due.Due.TheVariants.{Job as JobDue}
use Rattle.cert_checker.proofs.Steps.{tells_row}
use Rattle.cert_checker.proofs.PlanRows.{below_from, job_says, plan_of_more}
use Rattle.cert_checker.proofs.plan.job_line.Goals as goal
use Rattle.cert_checker.proofs.plan.job_line.Goals.{After-judge_job}

pub returns-then-task-from : goal.returns-then-task-from
returns-then-task-from c = λ reading a.
    let h = c.in_ok-task.ensures in
    let task = c.in_ok-task.field-0.task in
    let b : BegunDossier = c.deref_mut-held.result.now in
    let job : Job = record { start = c.in_ok-task.field-0.start; teams = h.0 } in
    let low = c.if-task-from.true in
    subst (λ r. Says r c.args.words (Refuses reasons.Shape)) (sym (a.1 ∙ ap (λ (d : BegunDossier). Jobs (draft_of d) c.args.more c.args.from) (sym c.deref_mut-held.ensures.value)))
    (job_says (draft_of b) c.args.more c.args.from c.args.words (task, job) (Refuses reasons.Shape)
    (subst (λ m. IsDoLine m (length b.base.instance.tasks) (task, job)) c.teams-teams.ensures.count (subst (λ n. IsDoLine c.teams-teams.result n (task, job)) c.tasks-tasks.ensures.count h.2)) h.3
    (Fails (λ le. absurd (omega arith)) refl))

pub team_list-requires : goal.team_list-requires
team_list-requires c =
    let h = c.in_ok-task.ensures in
    let few = c.teams-teams.ensures.limits.parts.few_teams in
    let count = c.teams-teams.ensures.count in
    subst (AreBelow MOST_TEAMS) (sym h.1) (below_from c.teams-teams.result MOST_TEAMS h.0 (omega arith) h.2.teams)

pub judge_job-requires : goal.judge_job-requires
judge_job-requires c =
    let h = c.in_ok-task.ensures in
    let line = c.in_ok-task.field-0 in
    let b : BegunDossier = c.deref_mut-held.result.now in
    let i = b.base.instance in
    let job : Job = record { start = line.start; teams = h.0 } in
    let listed : c.in_ok-teams.teams.items ≡ h.0 = c.in_ok-teams.ensures ∙ ap naturals h.1 ∙ naturals-pos h.0 in
    let fits = subst (λ m. IsDoLine m (length i.tasks) (line.task, job)) c.teams-teams.ensures.count (subst (λ n. IsDoLine c.teams-teams.result n (line.task, job)) c.tasks-tasks.ensures.count h.2) in
    let begun = subst IsBegun (sym c.deref_mut-held.ensures.value) c.requires.1.0 in record {
      plan = subst (IsPlanOf i) (sym (c.assign_list.ensures ∙ ap (λ ks. slice_set b.plan line.task (Some (record job { teams = ks }))) listed))
          (plan_of_more i b.plan line.task line.start h.0 begun.plan fits.task fits.teams);
      root = begun.root;
    }

-- what is said of the job
told : (c : After-judge_job) → IsStep (JobDue c.args.draft c.args.more c.args.from) c.args.words c.judge_job.result
told c = λ reading a.
    let h = c.in_ok-task.ensures in
    let line = c.in_ok-task.field-0 in
    let b : BegunDossier = c.deref_mut-held.result.now in
    let i = b.base.instance in
    let job : Job = record { start = line.start; teams = h.0 } in
    let listed : c.in_ok-teams.teams.items ≡ h.0 = c.in_ok-teams.ensures ∙ ap naturals h.1 ∙ naturals-pos h.0 in
    let fits = subst (λ m. IsDoLine m (length i.tasks) (line.task, job)) c.teams-teams.ensures.count (subst (λ n. IsDoLine c.teams-teams.result n (line.task, job)) c.tasks-tasks.ensures.count h.2) in
    let plan : c.assign_list.new.self ≡ slice_set b.plan line.task (Some job) = c.assign_list.ensures ∙ ap (λ ks. slice_set b.plan line.task (Some (record job { teams = ks }))) listed in
    let next : line.task + 1 ≡ suc line.task = omega arith in
    let rules = after_job (record (draft_of b) { plan = c.assign_list.new.self }) c.args.more (line.task + 1) in
    subst (λ r. Tells (Says r c.args.words) c.judge_job.result) (sym (a.1 ∙ ap (λ (d : BegunDossier). Jobs (draft_of d) c.args.more c.args.from) (sym c.deref_mut-held.ensures.value)))
    (tells_row rules (job_row (draft_of b) c.args.more c.args.from c.args.words) c.judge_job.result
    (λ said rest. job_says (draft_of b) c.args.more c.args.from c.args.words (line.task, job) said fits h.3
    (Holds c.if-task-from.false
    (subst (λ n. after_job (record (draft_of b) { plan = slice_set b.plan line.task (Some job) }) c.args.more n said) next
    (subst (λ p. after_job (record (draft_of b) { plan = p }) c.args.more (line.task + 1) said) plan rest))))
    c.judge_job.ensures)

pub returns-in_err-judge_job : goal.returns-in_err-judge_job
returns-in_err-judge_job d =
    let c = (goal.at.returns-in_err-judge_job d).After-judge_job in
    let p = err_from_is_err_and d.from_residual-in_err-judge_job.result d.from_residual-in_err-judge_job.ensures.1 in
    rw (p.1, p.2) (subst (IsStep (JobDue d.args.draft d.args.more d.args.from) d.args.words) d.in_err-judge_job.was (told c))

pub returns : goal.returns
returns d =
    let c = (goal.at.returns d).After-judge_job in
    subst (IsStep (JobDue d.args.draft d.args.more d.args.from) d.args.words) d.in_ok-judge_job.was (told c)
