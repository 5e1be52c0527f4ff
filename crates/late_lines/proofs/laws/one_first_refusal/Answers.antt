use Rattle.late_lines.proofs.Once.{refused_once}
use Rattle.late_lines.proofs.laws.one_first_refusal.Goals as goal

pub returns : goal.returns
returns c = refused_once c.words_of_line.ensures.words c.lines_in_text.ensures.either
