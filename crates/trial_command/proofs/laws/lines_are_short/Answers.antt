use Rattle.trial_command.proofs.DossierBytes.{front_grows, long_begins_none}
use Rattle.trial_command.proofs.laws.lines_are_short.Goals as goal

pub returns-clause-front : goal.returns-clause-front
returns-clause-front c = front_grows

pub returns-clause-long : goal.returns-clause-long
returns-clause-long c = long_begins_none c.good_lines.ensures c.read_front.ensures.one
