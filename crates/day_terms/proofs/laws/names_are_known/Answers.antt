use Rattle.day_terms.proofs.Named as named
use Rattle.day_terms.proofs.Numbers.{place_known}
use Rattle.crew_terms.specs.declared.Team.{Team}
use Rattle.crew_terms.specs.declared.Task.{Task}
use Rattle.day_terms.proofs.laws.names_are_known.Goals as goal

pub returns-clause-place : goal.returns-clause-place
returns-clause-place c = place_known

pub returns-clause-team : goal.returns-clause-team
returns-clause-team c = λ s name. named.known (λ (t : Team). t.name) s.teams name

pub returns-clause-task : goal.returns-clause-task
returns-clause-task c = λ s name. named.known (λ (t : Task). t.name) s.tasks name
