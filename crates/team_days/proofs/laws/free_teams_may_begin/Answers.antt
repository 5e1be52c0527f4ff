use Rattle.team_days.proofs.Added.{feasible_law, legal_law, packed_law}
use Rattle.team_days.proofs.laws.free_teams_may_begin.Goals as goal

pub returns-clause-feasible : goal.returns-clause-feasible
returns-clause-feasible c = λ i p j job feasible addition. feasible_law i p j job addition feasible

pub returns-clause-legal : goal.returns-clause-legal
returns-clause-legal c = λ i p j job legal addition. legal_law i p j job addition legal

pub returns-clause-packed : goal.returns-clause-packed
returns-clause-packed c = packed_law
