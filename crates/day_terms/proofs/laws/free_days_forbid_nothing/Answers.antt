use Rattle.day_terms.proofs.Free.{nothing_forbidden}
use Rattle.day_terms.proofs.laws.free_days_forbid_nothing.Goals as goal

pub returns : goal.returns
returns c = nothing_forbidden
