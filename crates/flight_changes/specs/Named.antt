-- jobs by names: those of one minute, and those that an entry leaves
use Rattle.std.specs.Prelude.{ℕ, List, filter, flat_map, length, not}
use Rattle.crew_terms.specs.Instance.{Instance}
use Rattle.crew_terms.specs.Plan.{Plan, job_of}
use Rattle.day_terms.specs.State.{NamedJob}
use Rattle.day_terms.specs.Faulty.{below}
use Rattle.day_terms.specs.Work.{is_job_of, named_at, needs_team}
use Rattle.day_terms.specs.declared.Entry.{Entry}
use Rattle.day_terms.specs.declared.Entry.TheVariants.{Cancel, Sick}

-- the jobs that are begun at minute t, by task
abbrev pub jobs_at : Instance → Plan → ℕ → List NamedJob
jobs_at i p t = flat_map (λ j. named_at i t j (job_of p j)) (below (length p))

-- the jobs that are left when the task or the team of the entry is no more
abbrev pub left_jobs : Entry → List NamedJob → List NamedJob
left_jobs (Cancel task) jobs = filter (λ job. not (is_job_of task job)) jobs
left_jobs (Sick team) jobs = filter (λ job. not (needs_team team job)) jobs
left_jobs entry jobs = jobs
