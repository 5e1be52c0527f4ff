use Rattle.trial_command.proofs.DossierBytes.{line_is_judged}
use Rattle.trial_command.proofs.laws.lines_are_judged.Goals as goal

pub returns : goal.returns
returns c = λ bytes front old new said are. line_is_judged c.reading_goes_on.ensures c.reading_ends.ensures c.read_is_good.ensures c.refused_is_not_good.ensures
    c.text_of_lines.ensures.one c.read_front.ensures.one bytes front old new are said
