-- laws of the plan without a job
use Rattle.std.proofs.Common.{◌≡◌, ℕ, zero, suc, refl, length, None, Some}
use Rattle.std.proofs.lemmas.List.{length-replicate}
use Rattle.crew_terms.specs.Instance.{Instance}
use Rattle.crew_terms.specs.Plan.{Job, empty_plan, job_of}
use Rattle.crew_terms.specs.Legal.{IsFeasible}

-- no task has a job
pub job_none : (n j : ℕ) → job_of (empty_plan n) j ≡ None
job_none zero j = refl
job_none (suc n) zero = refl
job_none (suc n) (suc j) = job_none n j

-- so none is begun
pub none_begun : (n j : ℕ) (job : Job) → job_of (empty_plan n) j ≡ Some job → ⊥
none_begun n j job e = let a = job_none n j in cc

-- the plan is feasible
pub empty_feasible : (i : Instance) → IsFeasible i (empty_plan (length i.tasks))
empty_feasible i = record {
  whole = length-replicate (length i.tasks) None;
  jobs = λ j job e. absurd (none_begun (length i.tasks) j job e);
  apart = λ k j h t u d. absurd (none_begun (length i.tasks) j d.0 d.1);
  follow = λ k j h t u d. absurd (none_begun (length i.tasks) j d.0 d.1);
}
