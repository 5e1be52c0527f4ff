-- the jobs of a plan
use Rattle.std.proofs.Common.{◌≡◌, ◌≤◌, ◌<◌, ◌+◌, ◌++◌, ◌⊎◌, inl, inr, ℕ, List, length, get_or, ltb, Bool, true, false, take, drop, arith, refl, sym, subst, ap, ◌∙◌, Option, None, Some}
use Rattle.std.specs.Prelude.{IsTrue, ◌↔◌}
use Rattle.std.specs.Option.{option_map}
use Rattle.std.specs.List.{IsAllAdjacentAnswer, All}
use Rattle.std.specs.List.Sorted.{IsStrictlyIncreasing}
use Rattle.std.proofs.lemmas.Bool.{ltb-true, lt-ltb, cases_lt}
use Rattle.std.proofs.lemmas.List.{take-append-drop, drop_more}
use Rattle.std.proofs.lemmas.List.Elements.{All-contains, Contains-get_or}
use Rattle.crew_terms.specs.Instance.{Instance, task_of}
use Rattle.crew_terms.specs.Plan.{Plan, Job, job_of}
use Rattle.crew_terms.specs.Legal.{IsJob, IsInWindow, IsTeamList, IsFit}
use Rattle.crew_terms.specs.Verdict.{IsVisitFault, IsJobFault, OfTeam, AreJobsBelow, IsPlanOf}
use Rattle.crew_terms.specs.declared.PlanVerdict.{PlanVerdict}
use Rattle.crew_terms.specs.declared.Task.{Task}
use Rattle.crew_instance.specs.Jobs.{IsGoodAt}
use Rattle.crew_instance.specs.Teams.{job_teams}

-- what `is_sorted_by` tells of numbers that are to rise
pub rising_decides : (xs : List ℕ) (r : Bool) → IsAllAdjacentAnswer (λ x y b. b ≡ ltb x y) xs r → IsTrue r ↔ IsStrictlyIncreasing xs
rising_decides xs true all = ((λ _ k l. ltb-true (get_or xs k 0) (get_or xs (k + 1) 0) (sym (all k 0 l))), (λ _. refl))
rising_decides xs false (k, l, not) = ((λ t. cc), (λ rise. not 0 ∙ lt-ltb (get_or xs k 0) (get_or xs (k + 1) 0) (rise k l)))

-- what is read of the task
pub window_decides : (i : Instance) (j : ℕ) (job : Job) (task : Task) (r : Bool) → task ≡ task_of i j → IsTrue r ↔ ((task.earliest ≤ job.start) × (job.start ≤ task.latest))
    → IsTrue r ↔ IsInWindow i j job
window_decides i j job task r e decides = (
  (λ t. let d = decides.0 t in record { early = subst (λ (x : Task). x.earliest ≤ job.start) e d.0; late = subst (λ (x : Task). job.start ≤ x.latest) e d.1 }),
  (λ w. decides.1 (subst (λ (x : Task). x.earliest ≤ job.start) (sym e) w.early, subst (λ (x : Task). job.start ≤ x.latest) (sym e) w.late)),
)

pub list_decides : (i : Instance) (j : ℕ) (job : Job) (task : Task) (r : Bool) → task ≡ task_of i j → IsTrue r ↔ ((length job.teams ≡ task.teams) × IsStrictlyIncreasing job.teams)
    → IsTrue r ↔ IsTeamList i j job
list_decides i j job task r e decides = (
  (λ t. let d = decides.0 t in record { rising = d.1; count = d.0 ∙ ap (λ (x : Task). x.teams) e }),
  (λ l. decides.1 (l.count ∙ ap (λ (x : Task). x.teams) (sym e), l.rising)),
)

-- a job of which each team is fit
pub good_job : (i : Instance) (j : ℕ) (job : Job) → IsInWindow i j job → IsTeamList i j job → All (λ k. k < length i.teams) job.teams
    → All (IsFit i j job.start) job.teams → IsJob i j job
good_job i j job window list known fit = record {
  window = window;
  list = list;
  known = λ k c. All-contains (λ h. h < length i.teams) job.teams k known c;
  fit = λ k c. All-contains (IsFit i j job.start) job.teams k fit c;
}

-- the team at a place is the first that is not fit
pub team_fault : (i : Instance) (j : ℕ) (job : Job) (told : PlanVerdict) (m : ℕ) → IsInWindow i j job → IsTeamList i j job → m < length job.teams
    → All (IsFit i j job.start) (take m job.teams) → IsVisitFault i j job.start (get_or job.teams m 0) told → IsJobFault i j job told
team_fault i j job told m window list l earlier how =
    OfTeam window list (take m job.teams) (get_or job.teams m 0) (drop (m + 1) job.teams)
    (sym (take-append-drop m job.teams) ∙ ap (λ ks. take m job.teams ++ ks) (drop_more job.teams m 0 l)) earlier how

-- the job of a task, by its two parts
pub job_from_parts : (o : Option Job) (t : ℕ) → option_map (λ (job : Job). job.start) o ≡ Some t → o ≡ Some (record { start = t; teams = job_teams o })
job_from_parts None t e = cc
job_from_parts (Some job) t e = let f : job.start ≡ t = cc in ap (λ s. Some (record { start = s; teams = job.teams })) f

-- the teams of a plan are known
pub teams_known : (i : Instance) (p : Plan) (j t : ℕ) → IsPlanOf i p → option_map (λ (job : Job). job.start) (job_of p j) ≡ Some t
    → All (λ k. k < length i.teams) (job_teams (job_of p j))
teams_known i p j t of e k d l =
    of.known (get_or (job_teams (job_of p j)) k d) j t (record { start = t; teams = job_teams (job_of p j) }, job_from_parts (job_of p j) t e, refl, Contains-get_or (job_teams (job_of p j)) k d l)

-- one more task
pub jobs_more : (i : Instance) (p : Plan) (n : ℕ) → AreJobsBelow i p n → IsGoodAt i p n → AreJobsBelow i p (n + 1)
jobs_more i p n before here j job l e = at (cases_lt j n)
  where
    at : (j < n) ⊎ (n ≤ j) → IsJob i j job
    at (inl m) = before j job m e
    at (inr m) = let same : n ≡ j = omega arith in subst (λ h. IsGoodAt i p h) same here job e
