use Rattle.parts_command.proofs.Refusals.{only_refusal}
use Rattle.parts_command.proofs.laws.one_refusal.Goals as goal

pub returns : goal.returns
returns c = only_refusal c.one_bundle_first.ensures c.one_dossier_first.ensures c.one_count_first.ensures c.one_more_part.ensures.front c.lines_between.ensures.first c.lines_between.ensures.count
    c.words_of_line.ensures.words c.one_way_on.ensures.refusal c.one_refusal.ensures
