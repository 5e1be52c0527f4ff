use Rattle.day_terms.proofs.Times.{there, back, others_twice}
use Rattle.day_terms.proofs.laws.travel_is_both_ways.Goals as goal

pub returns-clause-there : goal.returns-clause-there
returns-clause-there c = there c.time_is_given.ensures.given c.time_is_given.ensures.others

pub returns-clause-back : goal.returns-clause-back
returns-clause-back c = back c.time_is_given.ensures.given

pub returns-clause-others : goal.returns-clause-others
returns-clause-others c = others_twice c.time_is_given.ensures.others
