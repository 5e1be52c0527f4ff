use Rattle.crew_terms.specs.EmptyPlan.{empty_feasible}
use Rattle.crew_laws.proofs.empty_plan_is_feasible.Goals as goal

pub returns : goal.returns
returns c = empty_feasible
