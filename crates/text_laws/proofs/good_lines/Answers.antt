use Rattle.text_laws.proofs.Good.{lines_good}
use Rattle.text_laws.proofs.good_lines.Goals as goal

pub returns : goal.returns
returns c = lines_good
