use Rattle.dossier_laws.proofs.One.{reaches_more}
use Rattle.dossier_laws.proofs.reading_goes_on.Goals as goal

pub returns : goal.returns
returns c = reaches_more
