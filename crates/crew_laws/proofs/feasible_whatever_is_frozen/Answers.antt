use Rattle.crew_laws.proofs.Feasible.{still_feasible}
use Rattle.crew_laws.proofs.feasible_whatever_is_frozen.Goals as goal

pub returns : goal.returns
returns c = still_feasible
