use Rattle.day_terms.proofs.Rounds.{appended, one_more}
use Rattle.day_terms.proofs.laws.rounds_go_on.Goals as goal

pub returns-clause-appended : goal.returns-clause-appended
returns-clause-appended c = appended

pub returns-clause-one_more : goal.returns-clause-one_more
returns-clause-one_more c = one_more
