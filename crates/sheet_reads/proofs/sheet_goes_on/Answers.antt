use Rattle.sheet_reads.proofs.Reaches.{reaches_more}
use Rattle.sheet_reads.proofs.sheet_goes_on.Goals as goal

pub returns : goal.returns
returns c = reaches_more
