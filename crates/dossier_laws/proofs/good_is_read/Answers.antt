use Rattle.dossier_laws.proofs.Complete.{good_ended}
use Rattle.dossier_laws.proofs.good_is_read.Goals as goal

pub returns : goal.returns
returns c = good_ended
