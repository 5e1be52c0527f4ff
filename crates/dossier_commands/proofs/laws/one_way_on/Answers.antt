use Rattle.dossier_commands.proofs.Refusals.{one_way_on, read_on_is_not_refused}
use Rattle.dossier_commands.proofs.laws.one_way_on.Goals as goal

pub returns-clause-dossiers : goal.returns-clause-dossiers
returns-clause-dossiers c = λ front. one_way_on c.says_one_thing.ensures c.good_is_read.ensures c.read_front.ensures.many c.good_lines.ensures c.words_of_line.ensures.words
    c.text_of_lines.ensures.many c.one_dossier.ensures front c.lines_in_text.ensures.either

pub returns-clause-refusal : goal.returns-clause-refusal
returns-clause-refusal c = λ front. read_on_is_not_refused c.says_one_thing.ensures c.good_is_read.ensures c.read_front.ensures.many c.good_lines.ensures c.words_of_line.ensures.words
    c.text_of_lines.ensures.many c.one_dossier.ensures front c.lines_in_text.ensures.either
