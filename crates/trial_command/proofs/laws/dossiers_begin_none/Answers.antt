use Rattle.trial_command.proofs.DossierBytes.{behind_whole, still_none}
use Rattle.trial_command.proofs.laws.dossiers_begin_none.Goals as goal

pub returns-clause-whole : goal.returns-clause-whole
returns-clause-whole c = behind_whole c.one_text.ensures.one

pub returns-clause-none : goal.returns-clause-none
returns-clause-none c = still_none
