use Rattle.text_laws.proofs.Once.{text_once, texts_once}
use Rattle.text_laws.proofs.one_text.Goals as goal

pub returns-clause-one : goal.returns-clause-one
returns-clause-one c = text_once c.one_dossier.ensures

pub returns-clause-many : goal.returns-clause-many
returns-clause-many c = texts_once c.one_dossier.ensures
