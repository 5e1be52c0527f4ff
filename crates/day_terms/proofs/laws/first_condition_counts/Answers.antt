use Rattle.day_terms.proofs.Conditions.{first, none}
use Rattle.day_terms.proofs.laws.first_condition_counts.Goals as goal

pub returns-clause-first : goal.returns-clause-first
returns-clause-first c = first

pub returns-clause-none : goal.returns-clause-none
returns-clause-none c = none
