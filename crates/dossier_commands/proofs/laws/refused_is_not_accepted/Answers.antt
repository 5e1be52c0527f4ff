use Rattle.dossier_commands.proofs.Refusals.{refused_is_not_accepted}
use Rattle.dossier_commands.proofs.laws.refused_is_not_accepted.Goals as goal

pub returns : goal.returns
returns c = refused_is_not_accepted c.says_one_thing.ensures c.good_is_read.ensures c.read_front.ensures.many c.good_lines.ensures c.words_of_line.ensures.words c.text_of_lines.ensures.many c.one_dossier.ensures
