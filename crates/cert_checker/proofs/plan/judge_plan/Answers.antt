use Rattle.std.proofs.Common.{refl, subst, sym}
use Rattle.crew_terms.specs.Legal.{IsLegal}
use Rattle.crew_terms.specs.Verdict.{IsVerdict}
use Rattle.cert_checker.specs.declared.due.BegunDossier.{BegunDossier}
use Rattle.cert_checker.proofs.PlanRows.{jobs_judged, jobs_faulty}
use Rattle.cert_checker.proofs.plan.judge_plan.Goals as goal

pub returns-in-Legal : goal.returns-in-Legal
returns-in-Legal c =
    jobs_judged c.args.draft 0 0 refl c.requires (subst (λ (d : BegunDossier). IsLegal d.base.instance d.plan) c.deref-held.ensures ((c.check_plan_in.ensures.legal).0 c.in-Legal.is))

pub returns-in_default : goal.returns-in_default
returns-in_default c =
    jobs_faulty c.args.draft 0 0 c.check_plan_in.result refl (subst (λ (d : BegunDossier). IsVerdict d.base.instance d.plan c.check_plan_in.result) c.deref-held.ensures c.check_plan_in.ensures.verdict)
    (λ legal. c.in_default.not-Legal ((c.check_plan_in.ensures.legal).1 (subst (λ (d : BegunDossier). IsLegal d.base.instance d.plan) (sym c.deref-held.ensures) legal)))
