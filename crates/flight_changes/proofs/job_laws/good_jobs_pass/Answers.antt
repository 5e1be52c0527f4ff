use Rattle.flight_changes.proofs.GoodJobs.{good_decides}
use Rattle.flight_changes.proofs.job_laws.good_jobs_pass.Goals as goal

pub returns : goal.returns
returns c = good_decides
