-- the jobs of a legal plan, and their names
use Rattle.std.proofs.Common.{◌≡◌, ◌≤◌, ◌<◌, ◌+◌, ◌++◌, ◌∷◌, [], ℕ, List, Option, None, Some, length, map, ap, sym, subst, refl, ◌∙◌, arith, zero-add, append-nil}
use Rattle.std.specs.Prelude.{All, slice_index_or}
use Rattle.std.specs.List.{flat_map, range_with_len}
use Rattle.std.specs.Option.{option_map, option_map_or}
use Rattle.std.proofs.lemmas.List.{map-append}
use Rattle.std.proofs.lemmas.List.Concat.{flat_map-append}
use Rattle.std.proofs.lemmas.List.Elements.{Contains-get_or}
use Rattle.crew_terms.specs.Instance.{Instance, task_of, no_task}
use Rattle.crew_terms.specs.Plan.{Plan, Job, job_of}
use Rattle.crew_terms.specs.Legal.{IsLegal}
use Rattle.crew_terms.specs.Nodes.{job_known}
use Rattle.crew_terms.specs.Ranges.{range_from}
use Rattle.crew_terms.specs.Rules.{IsInstance}
use Rattle.crew_terms.specs.declared.TheConstants.{LAST_MINUTE, MOST_TEAMS_PER_TASK}
use Rattle.crew_instance.specs.Teams.{job_teams}
use Rattle.round_changes.specs.Named.{jobs_at, named_job}

-- a task that begins at no minute has no job
pub no_job : (o : Option Job) → option_map (λ (job : Job). job.start) o ≡ None → o ≡ None
no_job None is = refl
no_job (Some job) is = absurd (cc)

-- and one that begins has one
pub has_job : (o : Option Job) (start : ℕ) → option_map (λ (job : Job). job.start) o ≡ Some start → (job : Job) × (o ≡ Some job) × (job.start ≡ start)
has_job None start is = absurd (cc)
has_job (Some job) start is = (job, refl, cc)

pub none_at : (i : Instance) (p : Plan) (j : ℕ) → job_of p j ≡ None → jobs_at i p j ≡ []
none_at i p j is = ap (λ o. option_map_or (λ job. named_job i j job ∷ []) o []) is

pub one_at : (i : Instance) (p : Plan) (j : ℕ) (job : Job) → job_of p j ≡ Some job → jobs_at i p j ≡ named_job i j job ∷ []
one_at i p j job is = ap (λ o. option_map_or (λ w. named_job i j w ∷ []) o []) is

-- one number more
pub mapped_more : {B : Type 0} (f : ℕ → B) (n : ℕ) → map f (range_with_len 0 (n + 1)) ≡ map f (range_with_len 0 n) ++ f n ∷ []
mapped_more f n = ap (map f) (range_from 0 n) ∙ map-append f (range_with_len 0 n) ((0 + n) ∷ []) ∙ ap (λ k. map f (range_with_len 0 n) ++ f k ∷ []) (zero-add n)

pub flat_more : {B : Type 0} (f : ℕ → List B) (n : ℕ) → flat_map f (range_with_len 0 (n + 1)) ≡ flat_map f (range_with_len 0 n) ++ f n
flat_more f n =
    ap (flat_map f) (range_from 0 n) ∙ flat_map-append f (range_with_len 0 n) ((0 + n) ∷ []) ∙ ap (λ k. flat_map f (range_with_len 0 n) ++ (f k ++ [])) (zero-add n)
    ∙ ap (λ t. flat_map f (range_with_len 0 n) ++ t) (append-nil (f n))

-- the job of task j in a legal plan
module _ (i : Instance) (p : Plan) (j : ℕ) (job : Job) (legal : IsLegal i p) (is : job_of p j ≡ Some job) where
  pub known_teams : All (λ k. k < length i.teams) job.teams
  known_teams = λ n d within. (legal.feasible.jobs j job is).known (slice_index_or job.teams n d) (Contains-get_or job.teams n d within)

  pub in_tasks : j < length i.tasks
  in_tasks = subst (λ n. j < n) legal.feasible.whole (job_known p j job is)

  pub in_day : IsInstance i → job.start ≤ LAST_MINUTE
  in_day limits =
      let late = (legal.feasible.jobs j job is).window.late in
      let day = (limits.parts.tasks j no_task in_tasks).window.day in
      omega (arith, late, day)

  pub few_teams : IsInstance i → length job.teams ≤ MOST_TEAMS_PER_TASK
  few_teams limits =
      let count = (legal.feasible.jobs j job is).list.count in
      let few = (limits.parts.tasks j no_task in_tasks).teams.few in
      omega (arith, count, few)
