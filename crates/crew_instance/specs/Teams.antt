-- what is read of a job
use Rattle.std.specs.Prelude.{ℕ, List, [], Option, None, Some}
use Rattle.crew_terms.specs.Plan.{Job}

-- the job with this start and these teams
abbrev pub job_by : ℕ → List ℕ → Job
job_by start teams = record { start = start; teams = teams }

-- the teams of a job, none where there is no job
abbrev pub job_teams : Option Job → List ℕ
job_teams None = []
job_teams (Some job) = job.teams
