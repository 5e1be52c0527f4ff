-- what the jobs of a plan earn, where a visit of team k to task j that begins at minute t earns w k j t
use Rattle.std.specs.Prelude.{◌==◌, ℕ, ℤ, pos, Option, None, Some, if◌then◌else◌}
use Rattle.std.specs.List.{list_any}
use Rattle.crew_terms.specs.Limits.{Limits, tasks_in, teams_in}
use Rattle.crew_terms.specs.Plan.{Plan, Job, job_of}
use Rattle.crew_terms.specs.Total.{total}

-- what team k earns by a job of task j: what its visit earns, if the job has the team
abbrev pub team_earns : (ℕ → ℕ → ℕ → ℤ) → ℕ → ℕ → Option Job → ℤ
team_earns w k j None = pos 0
team_earns w k j (Some job) = if list_any (λ h. h == k) job.teams then w k j job.start else pos 0

-- what all teams earn together by a job of task j
abbrev pub job_earns : Limits → (ℕ → ℕ → ℕ → ℤ) → ℕ → Option Job → ℤ
job_earns n w j job = total (teams_in n) (λ k. team_earns w k j job)

-- what all jobs of the plan earn together
abbrev pub plan_earns : Limits → (ℕ → ℕ → ℕ → ℤ) → Plan → ℤ
plan_earns n w p = total (tasks_in n) (λ j. job_earns n w j (job_of p j))
