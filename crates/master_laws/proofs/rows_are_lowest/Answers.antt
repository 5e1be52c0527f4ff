use Rattle.master_laws.proofs.Lowest.{lowest_run}
use Rattle.master_laws.proofs.rows_are_lowest.Goals as goal

pub returns : goal.returns
returns c = λ n routes made h d t run lt all. (lowest_run n _ routes made t run).each h lt d all
