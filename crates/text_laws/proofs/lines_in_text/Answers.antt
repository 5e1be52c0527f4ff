use Rattle.text_laws.proofs.Feeds.{lines_same, lines_either, lines_last}
use Rattle.text_laws.proofs.lines_in_text.Goals as goal

pub returns-clause-same : goal.returns-clause-same
returns-clause-same c = lines_same

pub returns-clause-either : goal.returns-clause-either
returns-clause-either c = lines_either

pub returns-clause-last : goal.returns-clause-last
returns-clause-last c = lines_last
