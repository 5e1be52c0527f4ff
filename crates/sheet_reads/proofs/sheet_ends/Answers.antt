use Rattle.sheet_reads.proofs.Reaches.{reaches_end}
use Rattle.sheet_reads.proofs.sheet_ends.Goals as goal

pub returns : goal.returns
returns c = reaches_end
