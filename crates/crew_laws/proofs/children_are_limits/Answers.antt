use Rattle.crew_laws.proofs.Changes.{child_is_limits}
use Rattle.crew_laws.proofs.children_are_limits.Goals as goal

pub returns : goal.returns
returns c = child_is_limits
