use Rattle.crew_laws.proofs.Earnings.{plan_le_worths}
use Rattle.crew_laws.proofs.worths_bound_plans.Goals as goal

pub returns : goal.returns
returns c = λ n p w phi worth legal within holds. plan_le_worths n p w phi worth legal within holds
