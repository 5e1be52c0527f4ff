use Rattle.std.proofs.Common.{◌≡◌, ℕ, arith, subst, sym}
use Rattle.dossier_terms.specs.BodyTable.{after_job}
use Rattle.cert_checker.specs.Due.{Tells, draft_of}
use Rattle.cert_checker.proofs.PlanRows.{job_goes_on}
use Rattle.cert_checker.proofs.plan.judge_job.Goals as goal

pub returns-then-more-gt0 : goal.returns-then-more-gt0
returns-then-more-gt0 c = job_goes_on c.args.draft c.args.more c.args.from c.if-more-gt0.true c.requires

pub returns : goal.returns
returns c =
    let none : c.args.more ≡ 0 = (let n = c.if-more-gt0.false in omega arith) in
    subst (λ (n : ℕ). Tells (after_job (draft_of c.args.draft.value) n c.args.from) c.judge_plan.result) (sym none) c.judge_plan.ensures
