use Rattle.crew_laws.proofs.Exchange.{job_earns_alike}
use Rattle.crew_laws.proofs.jobs_earn_by_team.Goals as goal

pub returns : goal.returns
returns c = job_earns_alike
