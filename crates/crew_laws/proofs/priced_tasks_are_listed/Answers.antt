use Rattle.crew_laws.proofs.Minutes.{priced_listed}
use Rattle.crew_laws.proofs.priced_tasks_are_listed.Goals as goal

pub returns : goal.returns
returns c = priced_listed
