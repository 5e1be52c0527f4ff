use Rattle.late_lines.proofs.Once.{no_front}
use Rattle.late_lines.proofs.laws.refused_is_no_front.Goals as goal

pub returns : goal.returns
returns c = no_front c.words_of_line.ensures.words c.lines_in_text.ensures.either
