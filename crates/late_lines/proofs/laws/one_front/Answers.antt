use Rattle.late_lines.proofs.Once.{front_once}
use Rattle.late_lines.proofs.laws.one_front.Goals as goal

pub returns : goal.returns
returns c = front_once c.words_of_line.ensures.words c.lines_in_text.ensures.either
