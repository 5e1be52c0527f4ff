use Rattle.day_terms.proofs.Named.{changed_count, changed_named, changed_other}
use Rattle.crew_terms.specs.declared.Task.{Task}
use Rattle.day_terms.proofs.laws.task_changes_by_name.Goals as goal

pub returns-clause-count : goal.returns-clause-count
returns-clause-count c = λ s name change. changed_count (λ (t : Task). t.name) s.tasks name change

pub returns-clause-named : goal.returns-clause-named
returns-clause-named c = λ s name change. changed_named (λ (t : Task). t.name) s.tasks name change

pub returns-clause-others : goal.returns-clause-others
returns-clause-others c = λ s name change. changed_other (λ (t : Task). t.name) s.tasks name change
