use Rattle.dossier_laws.proofs.One.{reached_says_one}
use Rattle.dossier_laws.proofs.says_one_thing.Goals as goal

pub returns : goal.returns
returns c = reached_says_one c.one_verdict.ensures
