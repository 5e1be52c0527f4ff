-- a job more in a plan
use Rattle.std.specs.Prelude.{◌≡◌, ◌<◌, ℕ, length, None, Some, slice_set, Contains}
use Rattle.crew_terms.specs.Instance.{Instance}
use Rattle.crew_terms.specs.Legal.{IsInWindow, IsTeamList}
use Rattle.crew_terms.specs.Plan.{Plan, Job, job_of}
use Rattle.team_days.specs.Free.{IsFreeFor}

-- the plan with this job of task j
abbrev pub with_job : Plan → ℕ → Job → Plan
with_job p j job = slice_set p j (Some job)

-- a job of an unassigned task, in the task's window and with as many teams as the task needs
pub record IsAddition (i : Instance) (p : Plan) (j : ℕ) (job : Job) : Type 0 where
  pub task : j < length i.tasks
  pub unassigned : job_of p j ≡ None
  pub window : IsInWindow i j job
  pub list : IsTeamList i j job

-- each team of the job can take it into its day
abbrev pub AreFree : Instance → Plan → ℕ → Job → Type 0
AreFree i p j job = (k : ℕ) → Contains job.teams k → IsFreeFor i p k j job.start

-- at no minute are there enough teams that can take task j, if it is unassigned
abbrev pub FitsNowhere : Instance → Plan → ℕ → Type 0
FitsNowhere i p j = (job : Job) → IsAddition i p j job → AreFree i p j job → ⊥

-- each job of the first plan is one of the second
abbrev pub Keeps : Plan → Plan → Type 0
Keeps p q = (j : ℕ) (job : Job) → job_of p j ≡ Some job → job_of q j ≡ Some job
