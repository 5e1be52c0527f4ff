use Rattle.master_laws.proofs.Placed.{listed_run}
use Rattle.master_laws.proofs.lists_are_runs.Goals as goal

pub returns : goal.returns
returns c = λ n routes made t run. listed_run n _ routes made t run
