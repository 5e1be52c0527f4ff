use Rattle.day_terms.proofs.Minutes.{between, given, same, others}
use Rattle.day_terms.proofs.laws.minutes_are_by_name.Goals as goal

pub returns-clause-between : goal.returns-clause-between
returns-clause-between c = between

pub returns-clause-given : goal.returns-clause-given
returns-clause-given c = given

pub returns-clause-itself : goal.returns-clause-itself
returns-clause-itself c = same

pub returns-clause-others : goal.returns-clause-others
returns-clause-others c = others
