use Rattle.day_terms.proofs.Missing.{told, none}
use Rattle.day_terms.proofs.laws.missing_is_first.Goals as goal

pub returns-clause-told : goal.returns-clause-told
returns-clause-told c = told

pub returns-clause-none : goal.returns-clause-none
returns-clause-none c = none
