use Rattle.dossier_laws.proofs.Sound.{head_is_good}
use Rattle.dossier_laws.proofs.read_head_is_good.Goals as goal

pub returns : goal.returns
returns c = head_is_good
