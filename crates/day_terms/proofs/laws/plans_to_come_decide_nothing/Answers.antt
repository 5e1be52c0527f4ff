use Rattle.day_terms.proofs.Rounds.{refusal_same, rounds_same}
use Rattle.day_terms.proofs.laws.plans_to_come_decide_nothing.Goals as goal

pub returns-clause-refusal : goal.returns-clause-refusal
returns-clause-refusal c = refusal_same

pub returns-clause-round : goal.returns-clause-round
returns-clause-round c = rounds_same
