-- what a team does in the plan of the required pairs
use Rattle.std.proofs.Common.{◌≡◌, ◌≤◌, ◌<◌, ◌⊎◌, inl, inr, ℕ, Bool, true, false, cond, List, [], length, get_or, None, Some, refl, sym, ap, subst, arith, ◌∙◌}
use Rattle.std.specs.Prelude.{Contains}
use Rattle.std.proofs.lemmas.Bool.{cases_lt}
use Rattle.std.proofs.lemmas.List.{get_or_past}
use Rattle.std.proofs.lemmas.List.Elements.{All-get_or}
use Rattle.std.proofs.lemmas.List.FromFn.{get_or-map-range_with_len, length-map-range_with_len}
use Rattle.crew_terms.specs.Limits.{Limits, IsLimits, has_required, is_required, pair_of, tasks_in, teams_in}
use Rattle.crew_terms.specs.Minutes.{IsListOf, required_teams}
use Rattle.crew_terms.specs.Plan.{Does, Job, job_of}
use Rattle.crew_terms.specs.declared.Pair.{Pair}
use Rattle.crew_terms.specs.declared.Pair.TheVariants.{Free, Required}
use Rattle.crew_terms.specs.Below.{any_below-some}
use Rattle.search_terms.specs.Closing.{minute_of, required_job, required_plan}

-- the law that the required teams of a task are listed
abbrev pub RequiredAreListed : Type 0
RequiredAreListed = (n : Limits) (j : ℕ) → IsListOf (λ k. (k < teams_in n) × (pair_of n k j ≡ Required)) (required_teams n j)

free_is_other : Free ≡ Required → ⊥
free_is_other e = cc

module _ (n : Limits) (is : IsLimits n) where
  -- a required pair is of a team and a task of the node
  pub known_team : (k j : ℕ) → pair_of n k j ≡ Required → k < teams_in n
  known_team k j e = by (cases_lt k (length n.pairs))
    where
      by : (k < length n.pairs) ⊎ (length n.pairs ≤ k) → k < teams_in n
      by (inl lt) = let r = is.rows in omega arith
      by (inr ge) = absurd (free_is_other (sym (ap (λ (row : List Pair). get_or row j Free) (get_or_past n.pairs k [] ge)) ∙ e))

  pub known_task : (k j : ℕ) → pair_of n k j ≡ Required → j < tasks_in n
  known_task k j e = by (cases_lt j (tasks_in n))
    where
      row : length (get_or n.pairs k []) ≡ tasks_in n
      row = All-get_or (λ (r : List Pair). length r ≡ tasks_in n) n.pairs k [] (let a = known_team k j e in let r = is.rows in omega arith) is.columns

      by : (j < tasks_in n) ⊎ (tasks_in n ≤ j) → j < tasks_in n
      by (inl lt) = lt
      by (inr ge) = absurd (free_is_other (sym (get_or_past (get_or n.pairs k []) j Free (let r = row in omega arith)) ∙ e))

  pub some_required : (k j : ℕ) → pair_of n k j ≡ Required → has_required n j ≡ true
  some_required k j e = any_below-some (teams_in n) (λ h. is_required (pair_of n h j)) k (known_team k j e) (ap is_required e)

  pub job_at : (j : ℕ) → j < tasks_in n → job_of (required_plan n) j ≡ required_job n j
  job_at j l = get_or-map-range_with_len (required_job n) 0 (tasks_in n) j j None l (omega arith)

  no_job : (j : ℕ) → tasks_in n ≤ j → job_of (required_plan n) j ≡ None
  no_job j ge = get_or_past (required_plan n) j None (let e = length-map-range_with_len (required_job n) 0 (tasks_in n) in omega arith)

  abbrev job_required : ℕ → Job
  job_required j = record { start = minute_of n j; teams = required_teams n j }

  module _ (listed : RequiredAreListed) where
    -- a team does what is required of it, at the task's minute
    pub does : (k j : ℕ) → pair_of n k j ≡ Required → Does (required_plan n) k j (minute_of n j)
    does k j e = (
      job_required j,
      job_at j (known_task k j e) ∙ ap (λ b. cond b (Some (job_required j)) None) (some_required k j e),
      refl,
      ((listed n j).each k).1 (known_team k j e, e),
    )

    -- and nothing else
    pub done : (k j t : ℕ) → Does (required_plan n) k j t → (pair_of n k j ≡ Required) × (t ≡ minute_of n j)
    done k j t (job, e, start, has) = by (cases_lt j (tasks_in n))
      where
        from : (b : Bool) → cond b (Some (job_required j)) None ≡ Some job → job_required j ≡ job
        from true q = cc
        from false q = absurd (cc)

        by : (j < tasks_in n) ⊎ (tasks_in n ≤ j) → (pair_of n k j ≡ Required) × (t ≡ minute_of n j)
        by (inl lt) =
            let same = from (has_required n j) (sym (job_at j lt) ∙ e) in
            ((((listed n j).each k).0 (subst (λ (ks : List ℕ). Contains ks k) (sym (ap (λ (i : Job). i.teams) same)) has)).1, sym start ∙ sym (ap (λ (i : Job). i.start) same))
        by (inr ge) = absurd (let q = sym (no_job j ge) ∙ e in cc)
