-- the jobs of a plan, task by task
use Rattle.std.specs.Prelude.{ℕ, List, [], ◌∷◌, Option, None, Some}
use Rattle.crew_terms.specs.Plan.{Job}

-- task j with its job, if it has one
abbrev pub job_list : ℕ → Option Job → List (ℕ × Job)
job_list j None = []
job_list j (Some job) = (j, job) ∷ []
