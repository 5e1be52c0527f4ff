use Rattle.std.specs.Prelude.{IfOk}
use Rattle.std.proofs.Common.{◌≡◌, List, subst}
use Rattle.day_terms.specs.Instances.{plan_of_jobs}
use Rattle.day_terms.specs.State.{DayState, NamedJob}
use Rattle.flight_changes.proofs.desks.Desk.last_plan.Goals as goal

pub returns : goal.returns
returns c =
    let lists = c.self.inside.lists in
    let r = c.plan_of.result in
    subst (λ (s : DayState). IfOk r (λ plan. plan ≡ plan_of_jobs s s.last_plan)) c.self.view_is
    (subst (λ (jobs : List NamedJob). IfOk r (λ plan. plan ≡ plan_of_jobs lists jobs)) c.deref.ensures.value c.plan_of.ensures)
