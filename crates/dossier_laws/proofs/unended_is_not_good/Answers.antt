use Rattle.dossier_laws.proofs.One.{unended_not_good}
use Rattle.dossier_laws.proofs.unended_is_not_good.Goals as goal

pub returns : goal.returns
returns c = unended_not_good c.one_verdict.ensures
