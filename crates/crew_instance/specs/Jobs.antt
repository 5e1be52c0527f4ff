-- what is found at the job of one task
use Rattle.std.specs.Prelude.{◌≡◌, ℕ, Some}
use Rattle.crew_terms.specs.Instance.{Instance}
use Rattle.crew_terms.specs.Plan.{Plan, Job, job_of}
use Rattle.crew_terms.specs.Legal.{IsJob}
use Rattle.crew_terms.specs.Verdict.{IsJobFault}
use Rattle.crew_terms.specs.declared.PlanVerdict.{PlanVerdict}

-- if task j has a job, it is good
abbrev pub IsGoodAt : Instance → Plan → ℕ → Type 0
IsGoodAt i p j = (job : Job) → job_of p j ≡ Some job → IsJob i j job

-- the first fault of the job of task j is told
pub record IsFaultAt (i : Instance) (p : Plan) (j : ℕ) (told : PlanVerdict) : Type 0 where
  pub job : Job
  pub at : job_of p j ≡ Some job
  pub how : IsJobFault i j job told
