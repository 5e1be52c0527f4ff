use Rattle.day_gen.proofs.Ranges.{day_in_range}
use Rattle.day_gen.proofs.Taken.{day_taken}
use Rattle.day_gen.proofs.laws.generated_days_are_taken.Goals as goal

pub returns-clause-ranges : goal.returns-clause-ranges
returns-clause-ranges c = λ number teams tasks nodes few. day_in_range number teams tasks nodes few

pub returns-clause-taken : goal.returns-clause-taken
returns-clause-taken c = λ number teams tasks nodes few_teams few_tasks. (day_taken c.free_days_forbid_nothing.ensures number teams tasks nodes few_teams few_tasks).0

pub returns-clause-whole : goal.returns-clause-whole
returns-clause-whole c = λ number teams tasks nodes few_teams few_tasks. (day_taken c.free_days_forbid_nothing.ensures number teams tasks nodes few_teams few_tasks).1
