use Rattle.dossier_laws.proofs.HeadWrites.{head_behind_form}
use Rattle.dossier_laws.proofs.head_is_read.Goals as goal

pub returns : goal.returns
returns c = head_behind_form
