use Rattle.team_days.proofs.Named.{busy_is_known, none_is_free}
use Rattle.team_days.proofs.laws.obstacles_are_told.Goals as goal

pub returns-clause-free : goal.returns-clause-free
returns-clause-free c = λ i p k j t feasible known. none_is_free i p k j t feasible known

pub returns-clause-busy : goal.returns-clause-busy
returns-clause-busy c = λ i p k j t h feasible e. busy_is_known i p k j t feasible h e
