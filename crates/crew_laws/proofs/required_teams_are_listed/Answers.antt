use Rattle.crew_laws.proofs.Minutes.{required_listed}
use Rattle.crew_laws.proofs.required_teams_are_listed.Goals as goal

pub returns : goal.returns
returns c = required_listed
