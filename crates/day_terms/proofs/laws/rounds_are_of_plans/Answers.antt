use Rattle.day_terms.proofs.Rounds.{count, each}
use Rattle.day_terms.proofs.laws.rounds_are_of_plans.Goals as goal

pub returns-clause-count : goal.returns-clause-count
returns-clause-count c = count

pub returns-clause-each : goal.returns-clause-each
returns-clause-each c = λ plans. each plans (c.rounds_go_on.ensures.appended plans)
