use Rattle.part_texts.proofs.First.{dossier_first}
use Rattle.part_texts.proofs.one_dossier_first.Goals as goal

pub returns : goal.returns
returns c = dossier_first c.one_text.ensures.one
