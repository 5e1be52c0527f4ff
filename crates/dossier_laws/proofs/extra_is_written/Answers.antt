use Rattle.dossier_laws.proofs.Places.{extra_placed}
use Rattle.dossier_laws.proofs.extra_is_written.Goals as goal

pub returns : goal.returns
returns c = extra_placed
