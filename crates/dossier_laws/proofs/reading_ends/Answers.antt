use Rattle.dossier_laws.proofs.One.{reaches_end}
use Rattle.dossier_laws.proofs.reading_ends.Goals as goal

pub returns : goal.returns
returns c = reaches_end
