-- a node inside the root has the frozen jobs among its required pairs
use Rattle.std.proofs.Common.{◌≡◌, ◌≤◌, ◌<◌, ℕ, true, false, cond, List, [], ◌∷◌, length, get_or, refl, ap, sym, ◌∙◌, arith, eqb, ◌⊎◌, inl, inr, None, Some}
use Rattle.std.specs.Prelude.{Contains}
use Rattle.std.specs.List.{list_any}
use Rattle.std.proofs.lemmas.Bool.{cases_Bool, cases_lt}
use Rattle.std.proofs.lemmas.List.{get_or_past}
use Rattle.crew_terms.specs.Instance.{task_of, no_task}
use Rattle.crew_terms.specs.Rules.{IsInstance}
use Rattle.crew_terms.specs.Plan.{Plan, Job, job_of}
use Rattle.crew_terms.specs.Legal.{IsJob, KeepsFrozen}
use Rattle.crew_terms.specs.Limits.{Limits, IsLimits, tasks_in, teams_in, pair_of, root_limits, root_window, root_pair, is_required, has_required}
use Rattle.crew_terms.specs.Minutes.{required_teams}
use Rattle.crew_terms.specs.declared.Pair.TheVariants.{Forbidden, Required}
use Rattle.crew_terms.specs.Nodes.{window_at_root, pair_at_root}
use Rattle.crew_terms.specs.Below.{any_below-some}
use Rattle.search_terms.specs.Inside.{IsInside}
use Rattle.search_terms.specs.Closing.{minute_of, required_job}
use Rattle.crew_laws.specs.Listed.{contains_any, any_contains}
use Rattle.search_laws.proofs.Required.{IsRequiredPlan, RequiredAreListed, one_rising}

-- ---- a test of the teams of a job

first_in : (xs : List ℕ) → 1 ≤ length xs → Contains xs (get_or xs 0 0)
first_in [] h = absurd (omega arith)
first_in (x ∷ xs) h = (0, omega arith, refl)

-- ---- a frozen job

module _ (listed : RequiredAreListed) (n : Limits) (is : IsInstance n.instance) (limits : IsLimits n) (inside : IsInside n (root_limits n.instance))
    (j : ℕ) (job : Job) (frozen : job_of n.instance.frozen j ≡ Some job) where
  known : j < tasks_in n
  known = by (cases_lt j (length n.instance.frozen))
    where
      by : (j < length n.instance.frozen) ⊎ (length n.instance.frozen ≤ j) → j < tasks_in n
      by (inl l) = let w = is.frozen.whole in omega arith
      by (inr l) = let a : job_of n.instance.frozen j ≡ None = get_or_past n.instance.frozen j None l in absurd (let b : Some job ≡ None = sym frozen ∙ a in cc)

  job_is : IsJob n.instance j job
  job_is = is.frozen.jobs j job frozen

  at_minute : minute_of n j ≡ job.start
  at_minute =
      let w = window_at_root n.instance j known ∙ ap (root_window (task_of n.instance j)) frozen in
      let a = ap (λ (x : ℕ × ℕ). x.0) w in
      let b = ap (λ (x : ℕ × ℕ). x.1) w in
      let early = inside.early j known in
      let late = inside.late j known in
      let order = limits.order j known in
      omega arith

  root_has : (k : ℕ) → k < teams_in n → pair_of (root_limits n.instance) k j ≡ cond (list_any (λ h. eqb h k) job.teams) Required Forbidden
  root_has k l = pair_at_root n.instance k j l known ∙ ap (λ o. root_pair o k) frozen

  team_required : (k : ℕ) → Contains job.teams k → pair_of n k j ≡ Required
  team_required k c = inside.required k j (root_has k (job_is.known k c) ∙ ap (λ b. cond b Required Forbidden) (any_contains job.teams k c))

  required_team : (k : ℕ) → k < teams_in n → pair_of n k j ≡ Required → Contains job.teams k
  required_team k l e = by (cases_Bool (list_any (λ h. eqb h k) job.teams))
    where
      by : (list_any (λ h. eqb h k) job.teams ≡ true) ⊎ (list_any (λ h. eqb h k) job.teams ≡ false) → Contains job.teams k
      by (inl t) = contains_any job.teams k t
      by (inr t) =
          let f = inside.forbidden k j (root_has k l ∙ ap (λ b. cond b Required Forbidden) t) in
          absurd (let g : Required ≡ Forbidden = sym e ∙ f in cc)

  same_teams : required_teams n j ≡ job.teams
  same_teams = one_rising (required_teams n j) job.teams (listed n j).rising job_is.list.rising
      (λ k c. let r = ((listed n j).each k).0 c in required_team k r.0 r.1)
      (λ k c. ((listed n j).each k).1 (job_is.known k c, team_required k c))

  some_team : has_required n j ≡ true
  some_team =
      let one = (is.parts.tasks j no_task known).teams.some in
      let count = job_is.list.count in
      let c = first_in job.teams (omega arith) in
      any_below-some (teams_in n) (λ k. is_required (pair_of n k j)) (get_or job.teams 0 0) (job_is.known _ c) (ap is_required (team_required _ c))

  pub frozen_job : required_job n j ≡ Some job
  frozen_job =
      ap (λ b. cond b (Some (record { start = minute_of n j; teams = required_teams n j })) None) some_team
      ∙ ap (λ t. Some (record { start = t; teams = required_teams n j })) at_minute
      ∙ ap (λ ks. Some (record { start = job.start; teams = ks })) same_teams

-- the plan of the required pairs keeps the frozen jobs
pub keeps_frozen : RequiredAreListed → (n : Limits) → IsInstance n.instance → IsLimits n → IsInside n (root_limits n.instance) → (q : Plan) → IsRequiredPlan n q
    → (j : ℕ) → KeepsFrozen n.instance q j
keeps_frozen listed n is limits inside q whole j job frozen = whole.jobs j (known listed n is limits inside j job frozen) ∙ frozen_job listed n is limits inside j job frozen
