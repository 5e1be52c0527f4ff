use Rattle.master_laws.proofs.Loose.{little}
use Rattle.master_laws.proofs.losses.little_is_lost.Goals as goal

pub returns : goal.returns
returns c = little
