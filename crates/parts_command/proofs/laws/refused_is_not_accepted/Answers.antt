use Rattle.parts_command.proofs.Refusals.{not_accepted}
use Rattle.parts_command.proofs.laws.refused_is_not_accepted.Goals as goal

pub returns : goal.returns
returns c = not_accepted c.one_bundle_first.ensures c.one_dossier_first.ensures c.one_count_first.ensures c.one_more_part.ensures.front c.lines_between.ensures.first c.lines_between.ensures.count
    c.words_of_line.ensures.words c.one_way_on.ensures.refusal
