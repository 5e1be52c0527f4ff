use Rattle.part_texts.proofs.First.{bundle_first}
use Rattle.part_texts.proofs.one_bundle_first.Goals as goal

pub returns : goal.returns
returns c = bundle_first c.one_dossier_first.ensures c.words_of_line.ensures.words
