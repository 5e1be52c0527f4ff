use Rattle.dossier_commands.proofs.Refusals.{one_refusal}
use Rattle.dossier_commands.proofs.laws.one_refusal.Goals as goal

pub returns : goal.returns
returns c = λ front. one_refusal c.says_one_thing.ensures c.good_is_read.ensures c.read_front.ensures.many c.good_lines.ensures c.words_of_line.ensures.words
    c.text_of_lines.ensures.many c.one_dossier.ensures front c.lines_in_text.ensures.either
