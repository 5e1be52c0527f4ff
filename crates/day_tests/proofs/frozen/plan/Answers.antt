use Rattle.std.proofs.Common.{◌∙◌, ap, subst}
use Rattle.crew_terms.specs.Legal.{IsLegal}
use Rattle.day_terms.specs.Work.{jobs_by_names}
use Rattle.crew_laws.specs.Faultless.{legal_is_plan}
use Rattle.day_tests.proofs.frozen.plan.Goals as goal

pub of-requires : goal.of-requires
of-requires c = legal_is_plan c.in_ok-instance.instance c.in_ok-plan.plan c.in_ok-plan.ensures.legal

pub planned-requires : goal.planned-requires
planned-requires c =
    let plan = c.in_ok-plan.plan in
    let same = c.in_ok-instance.ensures.ok in
    record {
      legal = (plan, subst (λ i. IsLegal i plan) same c.in_ok-plan.ensures.legal, c.in_ok-jobs.ensures ∙ ap (λ i. jobs_by_names i plan) same);
    }
