-- texts of the job of a task, if it has one
use Rattle.std.proofs.Common.{◌≡◌, ℕ, List, [], Option, None, Some, ap, sym, refl, ◌∙◌}
use Rattle.std.specs.Prelude.{is_none, option_map, if◌then◌else◌}
use Rattle.std.specs.Option.{option_map_or}
use Rattle.crew_terms.specs.Plan.{Job}
use Rattle.crew_instance.specs.Teams.{job_teams}

-- the text of a task that has a job, by when it begins and by which teams
pub text_of_job : (f : ℕ → List ℕ → List ℕ) (o : Option Job) (start : ℕ) (teams : List ℕ) → option_map (λ (job : Job). job.start) o ≡ Some start → teams ≡ job_teams o
    → f start teams ≡ option_map_or (λ (job : Job). f job.start job.teams) o []
text_of_job f None start teams is same = absurd (cc)
text_of_job f (Some job) start teams is same = let e : job.start ≡ start = cc in ap (λ s. f s teams) (sym e) ∙ ap (f job.start) same

-- and of one that has none
pub text_of_none : (f : ℕ → List ℕ → List ℕ) (o : Option Job) → option_map (λ (job : Job). job.start) o ≡ None → [] ≡ option_map_or (λ (job : Job). f job.start job.teams) o []
text_of_none f None is = refl
text_of_none f (Some job) is = absurd (cc)

-- the text of an open task
pub text_of_open : (x : List ℕ) (o : Option Job) → option_map (λ (job : Job). job.start) o ≡ None → x ≡ (if is_none o then x else [])
text_of_open x None is = refl
text_of_open x (Some job) is = absurd (cc)

-- and of one that is done
pub text_of_done : (x : List ℕ) (o : Option Job) (start : ℕ) → option_map (λ (job : Job). job.start) o ≡ Some start → [] ≡ (if is_none o then x else [])
text_of_done x None start is = absurd (cc)
text_of_done x (Some job) start is = refl
