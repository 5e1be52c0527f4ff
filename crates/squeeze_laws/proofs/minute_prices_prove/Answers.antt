use Rattle.crew_terms.specs.Plan.{unassigned_count}
use Rattle.squeeze_terms.specs.Bound.{minute_bound}
use Rattle.squeeze_laws.proofs.Plans.{proved_le}
use Rattle.squeeze_laws.proofs.minute_prices_prove.Goals as goal

pub returns : goal.returns
returns c = λ i p prices worths phi l legal valid proves.
    proved_le (minute_bound i prices worths) (unassigned_count p) l (c.minute_prices_bound_plans.ensures i p prices worths phi legal valid) proves
