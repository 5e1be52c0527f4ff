use Rattle.std.proofs.Common.{◌≡◌, sym, ap, subst, ◌∙◌}
use Rattle.std.specs.Prelude.{All}
use Rattle.crew_terms.specs.Legal.{IsLegal}
use Rattle.day_terms.specs.Instances.{day_instance}
use Rattle.day_terms.specs.Work.{jobs_by_names}
use Rattle.flight_changes.specs.Kept.{state_of}
use Rattle.flight_changes.specs.Limits.{AreTeamsKnown}
use Rattle.flight_changes.proofs.NamedJobs.{plan_known}
use Rattle.flight_changes.proofs.desks.Desk.planned.Goals as goal

pub invariant_of-self : goal.invariant_of-self
invariant_of-self c =
    let s = state_of c.self.inside in
    let p = c.requires.legal.0 in
    let legal : IsLegal (day_instance s) p = subst (λ s. IsLegal (day_instance s) p) (sym c.self.view_is) c.requires.legal.1 in
    let jobs : c.into_jobs.result.items ≡ jobs_by_names (day_instance s) p =
    c.into_jobs.ensures ∙ c.requires.legal.2 ∙ ap (λ s. jobs_by_names (day_instance s) p) (sym c.self.view_is) in
    record { last_plan = subst (All (AreTeamsKnown s)) (sym jobs) (plan_known s p legal.feasible.jobs); frozen = record { known = c.self.invariant.frozen.known; feasible = c.self.invariant.frozen.feasible } }
