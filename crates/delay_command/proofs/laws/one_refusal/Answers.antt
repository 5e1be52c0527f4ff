use Rattle.delay_command.proofs.Once.{not_refused, same_first}
use Rattle.delay_command.proofs.OneRefusal.{refusal_once}
use Rattle.delay_command.proofs.laws.one_refusal.Goals as goal

pub returns : goal.returns
returns c =
    let cut = c.words_of_line.ensures.words in
    let either = c.lines_in_text.ensures.either in
    let good = c.good_lines.ensures in
    let text = c.text_of_lines.ensures.one in
    let refused = c.refused_is_not_good.ensures in
    let unended = c.unended_is_not_good.ensures in
    let first = c.one_dossier.ensures in
    let stop = c.whole_line_is_no_stop.ensures in
    refusal_once c.one_front.ensures c.one_text.ensures.one c.refused_is_no_front.ensures c.refused_is_not_accepted.ensures c.one_first_refusal.ensures c.one_refusal.ensures
    (not_refused cut either good text refused unended first stop) (same_first cut either good text refused unended first stop)
