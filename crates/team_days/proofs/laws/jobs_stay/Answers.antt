use Rattle.team_days.proofs.Added.{kept_job, one_less}
use Rattle.team_days.proofs.laws.jobs_stay.Goals as goal

pub returns-clause-keeps : goal.returns-clause-keeps
returns-clause-keeps c = kept_job

pub returns-clause-count : goal.returns-clause-count
returns-clause-count c = one_less
