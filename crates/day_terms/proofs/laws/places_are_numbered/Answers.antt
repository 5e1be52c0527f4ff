use Rattle.day_terms.proofs.Numbers.{known, first, unknown}
use Rattle.day_terms.proofs.laws.places_are_numbered.Goals as goal

pub returns-clause-known : goal.returns-clause-known
returns-clause-known c = known

pub returns-clause-first : goal.returns-clause-first
returns-clause-first c = first

pub returns-clause-unknown : goal.returns-clause-unknown
returns-clause-unknown c = unknown
