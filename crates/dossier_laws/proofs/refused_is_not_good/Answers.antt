use Rattle.dossier_laws.proofs.One.{refused_not_good}
use Rattle.dossier_laws.proofs.refused_is_not_good.Goals as goal

pub returns : goal.returns
returns c = refused_not_good c.one_verdict.ensures
