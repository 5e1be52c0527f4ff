use Rattle.trial_command.proofs.DossierBytes.{good_is_found}
use Rattle.trial_command.proofs.laws.good_is_found.Goals as goal

pub returns : goal.returns
returns c = good_is_found c.one_text.ensures.one c.read_front.ensures.one c.unended_is_not_good.ensures
