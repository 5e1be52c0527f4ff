use Rattle.sheet_texts.proofs.Lines.{lines_good}
use Rattle.sheet_texts.proofs.good_sheet_lines.Goals as goal

pub returns : goal.returns
returns c = lines_good
