use Rattle.part_texts.proofs.First.{count_first}
use Rattle.part_texts.proofs.one_count_first.Goals as goal

pub returns : goal.returns
returns c = count_first c.one_dossier_first.ensures c.words_of_line.ensures.words
