use Rattle.dossier_laws.proofs.One.{lines_one}
use Rattle.dossier_laws.proofs.one_dossier.Goals as goal

pub returns : goal.returns
returns c = lines_one c.one_verdict.ensures
