use Rattle.crew_laws.proofs.Verdicts.{same_feasibility}
use Rattle.crew_laws.proofs.one_feasibility.Goals as goal

pub returns : goal.returns
returns c = same_feasibility
