use Rattle.dossier_laws.proofs.Places.{phi_placed}
use Rattle.dossier_laws.proofs.potential_is_written.Goals as goal

pub returns : goal.returns
returns c = phi_placed
