use Rattle.dossier_laws.proofs.One.{rest_ended}
use Rattle.dossier_laws.proofs.rest_is_read.Goals as goal

pub returns : goal.returns
returns c = rest_ended c.one_verdict.ensures
