use Rattle.day_terms.proofs.Rounds.{state_more, state_later, rounds_later, taken_later}
use Rattle.day_terms.proofs.laws.state_goes_on.Goals as goal

pub returns-clause-one_more : goal.returns-clause-one_more
returns-clause-one_more c = state_more

pub returns-clause-later : goal.returns-clause-later
returns-clause-later c = state_later

pub returns-clause-rounds : goal.returns-clause-rounds
returns-clause-rounds c = rounds_later

pub returns-clause-taken : goal.returns-clause-taken
returns-clause-taken c = taken_later
