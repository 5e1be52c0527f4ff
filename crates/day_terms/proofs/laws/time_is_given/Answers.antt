use Rattle.day_terms.proofs.Times.{given, others}
use Rattle.day_terms.proofs.laws.time_is_given.Goals as goal

pub returns-clause-given : goal.returns-clause-given
returns-clause-given c = given

pub returns-clause-others : goal.returns-clause-others
returns-clause-others c = others
