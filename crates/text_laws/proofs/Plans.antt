-- the lines of a pool and of a plan
use Rattle.std.proofs.Common.{◌≡◌, ◌≤◌, ◌<◌, ◌+◌, [], ◌∷◌, ℕ, suc, List, length, subst, sym, refl, ◌∙◌, arith, inl, inr, None, Some}
use Rattle.std.specs.Prelude.{is_none}
use Rattle.std.specs.List.{All, AllByRecursion}
use Rattle.std.proofs.lemmas.Bool.{cases_lt}
use Rattle.std.proofs.lemmas.List.{get_or_past}
use Rattle.std.proofs.lemmas.List.Elements.{recursion_from_All, Contains-get_or}
use Rattle.std.proofs.lemmas.List.Sums.{count_by-le-length}
use Rattle.crew_terms.specs.Instance.{Instance}
use Rattle.crew_terms.specs.Rules.{IsInstance}
use Rattle.crew_terms.specs.Plan.{Plan, Job, job_of, unassigned_count}
use Rattle.crew_terms.specs.Legal.{IsFeasible, IsLegal}
use Rattle.crew_terms.specs.Limits.{Limits, IsPermittedVisit, GoesOn, IsRoute, root_limits, Route}
use Rattle.crew_terms.specs.declared.TheConstants.{LAST_MINUTE, MOST_NODES, MOST_NUMBER}
use Rattle.crew_terms.specs.declared.Visit.{Visit}
use Rattle.dossier_terms.specs.declared.DossierForm.{DossierForm}
use Rattle.dossier_terms.specs.declared.DossierForm.TheVariants.{One, Two}
use Rattle.dossier_terms.specs.Dossier.{IsPooled}
use Rattle.dossier_terms.specs.Lines.{route_line, pool_lines, do_line, keep_line, jobs_from, instance_lines, frozen_lines, head_lines, plan_lines}
use Rattle.text_laws.specs.Texts.{AreLine}
use Rattle.text_laws.proofs.Lists.{rec-append, rec-map}
use Rattle.text_laws.proofs.Heads.{instance_good, less_few, until_day, task_at}
use Rattle.text_laws.proofs.Spellings.{IsSmall, IsFewJob, pool_is_line, route_is_line, plan_is_line, do_is_line, form_is_line, frozen_is_line, keep_is_line}

-- ---- the pool

visit_small : (n : Limits) (k : ℕ) (v : Visit) → IsInstance n.instance → IsPermittedVisit n k v.task v.start → IsSmall v
visit_small n k v h p = record { task = omega (arith, p.known, h.parts.few_tasks); start = omega (arith, p.in_shift.returns, until_day n.instance h k) }

-- each visit begins later than the one before
visits_left : (n : Limits) (k : ℕ) (v : Visit) (vs : List Visit) → IsInstance n.instance → IsPermittedVisit n k v.task v.start → GoesOn n k v vs
    → (length vs + v.start ≤ LAST_MINUTE) × AllByRecursion IsSmall vs
visits_left n k v [] h p g = (omega (arith, p.in_shift.returns, until_day n.instance h k), tt)
visits_left n k v (w ∷ ws) h p g =
    let r = visits_left n k w ws h g.1 g.2 in
    let t = task_at n.instance h v.task p.known in
    (omega (arith, g.0.follow, t.window.some_minutes, r.0), (visit_small n k w h g.1, r.1))

-- few visits, each with small numbers
visits_few : (n : Limits) (k : ℕ) (vs : List Visit) → IsInstance n.instance → IsRoute n k vs → (length vs ≤ LAST_MINUTE + 1) × AllByRecursion IsSmall vs
visits_few n k [] h r = (omega arith, tt)
visits_few n k (v ∷ vs) h r = let a = visits_left n k v vs h r.0 r.1 in (omega (arith, a.0), (visit_small n k v h r.0, a.1))

route_good : (i : Instance) → IsInstance i → (r : Route) → IsPooled i r → AreLine (route_line r)
route_good i h r p = let a = visits_few (root_limits i) r.team r.visits h p.route in route_is_line r (omega (arith, p.team, h.parts.few_teams)) a.0 a.1

pub pool_good : (i : Instance) (kept : ℕ) (pool : List Route) → IsInstance i → kept ≤ length pool → length pool ≤ MOST_NUMBER → All (IsPooled i) pool
    → AllByRecursion AreLine (pool_lines kept pool)
pool_good i kept pool h few many p = (pool_is_line kept (length pool) (omega arith) (omega arith), rec-map (IsPooled i) AreLine route_line (route_good i h) pool (recursion_from_All (IsPooled i) pool p))

-- ---- the plan

jobs_all : (P : ℕ × Job → Type 0) (o : ℕ) (p : Plan) → ((j : ℕ) (job : Job) → job_of p j ≡ Some job → P (o + j, job)) → AllByRecursion P (jobs_from o p)
jobs_all P o [] h = tt
jobs_all P o (None ∷ p) h = jobs_all P (suc o) p (λ j job e. let f : o + suc j ≡ suc o + j = omega arith in subst (λ m. P (m, job)) f (h (suc j) job e))
jobs_all P o (Some job ∷ p) h = (
  let f : o + 0 ≡ o = omega arith in subst (λ m. P (m, job)) f (h 0 job refl),
  jobs_all P (suc o) p (λ j job e. let f : o + suc j ≡ suc o + j = omega arith in subst (λ m. P (m, job)) f (h (suc j) job e)),
)

planned : (i : Instance) (p : Plan) (j : ℕ) (job : Job) → IsFeasible i p → job_of p j ≡ Some job → j < length i.tasks
planned i p j job h e = elim (cases_lt j (length p)) [
  | inl l ↦ omega (arith, h.whole)
  | inr l ↦ absurd (let a : job_of p j ≡ None = get_or_past p j None l in let b : Some job ≡ None = sym e ∙ a in cc)
]

job_few : (i : Instance) (p : Plan) → IsInstance i → IsFeasible i p → (j : ℕ) (job : Job) → job_of p j ≡ Some job → IsFewJob (0 + j, job)
job_few i p h legal j job e =
    let l = planned i p j job legal e in
    let t = task_at i h j l in
    let is = legal.jobs j job e in
    let teams : All (λ k. k < length i.teams) job.teams = λ k d m. is.known _ (Contains-get_or job.teams k d m) in
    record {
      task = omega (arith, h.parts.few_tasks);
      start = omega (arith, is.window.late, t.window.day);
      count = omega (arith, is.list.count, t.teams);
      teams = less_few (length i.teams) job.teams (omega (arith, h.parts.few_teams)) (recursion_from_All (λ k. k < length i.teams) job.teams teams);
    }

pub plan_good : (i : Instance) (p : Plan) (bound : ℕ) → IsInstance i → IsLegal i p → bound ≤ length i.tasks → AllByRecursion AreLine (plan_lines p bound)
plan_good i p bound h legal few = (
  plan_is_line (unassigned_count p) bound (omega (arith, count_by-le-length is_none p, legal.feasible.whole, h.parts.few_tasks)) (omega (arith, h.parts.few_tasks)),
  rec-map IsFewJob AreLine do_line do_is_line (jobs_from 0 p) (jobs_all IsFewJob 0 p (job_few i p h legal.feasible)),
)

-- ---- the head, with the frozen jobs

jobs_few : (o : ℕ) (p : Plan) → length (jobs_from o p) ≤ length p
jobs_few o [] = omega arith
jobs_few o (None ∷ p) = let a = jobs_few (suc o) p in omega arith
jobs_few o (Some job ∷ p) = let a = jobs_few (suc o) p in omega arith

frozen_good : (form : DossierForm) (i : Instance) → IsInstance i → AllByRecursion AreLine (frozen_lines form i.frozen)
frozen_good One i h = tt
frozen_good Two i h = (
  frozen_is_line (length (jobs_from 0 i.frozen)) (omega (arith, jobs_few 0 i.frozen, h.frozen.whole, h.parts.few_tasks)),
  rec-map IsFewJob AreLine keep_line keep_is_line (jobs_from 0 i.frozen) (jobs_all IsFewJob 0 i.frozen (job_few i i.frozen h h.frozen)),
)

pub head_good : (form : DossierForm) (i : Instance) (budget : ℕ) → IsInstance i → budget ≤ MOST_NODES → AllByRecursion AreLine (head_lines form i budget)
head_good form i budget h spend = (form_is_line form, rec-append AreLine (instance_lines i budget) (frozen_lines form i.frozen) (instance_good i budget h spend) (frozen_good form i h))
