-- what one team does in a plan, in order
use Rattle.std.specs.Prelude.{◌↔◌, ℕ, List, AllPairs, Contains}
use Rattle.crew_terms.specs.Plan.{Plan, Does}
use Rattle.crew_terms.specs.Verdict.{IsBefore}
use Rattle.crew_terms.specs.declared.Visit.{Visit}
use Rattle.crew_laws.specs.Visits.{visit}

-- exactly what team k does in the plan, by start and then by number
pub record AreTasksOf (p : Plan) (k : ℕ) (visits : List Visit) : Type 0 where
  pub each : (j t : ℕ) → Contains visits (visit j t) ↔ Does p k j t
  pub order : AllPairs (λ (a b : Visit). IsBefore a.start a.task b.start b.task) visits
