use Rattle.crew_laws.proofs.Minutes.{open_listed}
use Rattle.crew_laws.proofs.open_tasks_may_begin.Goals as goal

pub returns : goal.returns
returns c = open_listed
