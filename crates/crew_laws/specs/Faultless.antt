-- a plan whose jobs are good and whose teams have no clash is feasible, where each task takes some minutes; a feasible plan has no
-- fault; and a legal plan is one of its instance
use Rattle.std.proofs.Common.{◌≡◌, ◌≢◌, ◌≤◌, ◌<◌, ◌+◌, ◌⊎◌, inl, inr, ℕ, zero, suc, List, ◌∷◌, ◌++◌, length, arith, sym, refl, subst}
use Rattle.std.specs.Prelude.{Contains}
use Rattle.std.proofs.lemmas.List.Elements.{All-get_or, Contains-append_right}
use Rattle.std.proofs.lemmas.Bool.{cases_lt}
use Rattle.crew_terms.specs.Instance.{Instance, task_of, no_task, CanFollow}
use Rattle.crew_terms.specs.Rules.{AreParts, IsTask}
use Rattle.crew_terms.specs.Plan.{Plan, Job, Does}
use Rattle.crew_terms.specs.Legal.{IsJob, IsFeasible, IsLegal}
use Rattle.crew_terms.specs.Verdict.{IsBefore, HasNoClash, AreJobsBelow, IsPlanOf, IsJobFault, Outside, Miscounted, OfTeam, Unskilled, OffShift}
use Rattle.crew_terms.specs.declared.PlanVerdict.{PlanVerdict}
use Rattle.crew_terms.specs.Nodes.{job_known, task_known}

module _ (i : Instance) (p : Plan) (are : AreParts i.places i.teams i.tasks) (of : IsPlanOf i p) (jobs : AreJobsBelow i p (length p)) where
  task_is : (k j t : ℕ) → Does p k j t → IsTask (length i.places) (task_of i j)
  task_is k j t d = All-get_or (IsTask (length i.places)) i.tasks j no_task (let a = task_known p k j t d in let b = of.whole in omega arith) are.tasks

  -- a team that follows itself at once has no time for the first task
  no_time : (k j h t : ℕ) → Does p k j t → CanFollow i j t h t → ⊥
  no_time k j h t d f = let m = (task_is k j t d).window.some_minutes in absurd (omega arith)

  module _ (k : ℕ) (calm : HasNoClash i p k) where
    -- two of its tasks at one minute, if none between is begun then
    neighbours_apart : (j h t : ℕ) → j < h → Does p k j t → Does p k h t → ((g : ℕ) → j < g → g < h → Does p k g t → ⊥) → ⊥
    neighbours_apart j h t l d e none = no_time k j h t d (calm j t h t (record { first = d; second = e; order = inr (refl, l); none_between = between }))
      where
        between : (g s : ℕ) → Does p k g s → IsBefore t j s g → IsBefore s g t h → ⊥
        between g s c (inl a) (inl b) = absurd (omega arith)
        between g s c (inl a) (inr b) = absurd (omega arith)
        between g s c (inr a) (inl b) = absurd (omega arith)
        between g s c (inr a) (inr b) = none g a.1 b.1 (subst (λ r. Does p k g r) b.0 c)

    -- two of its tasks at one minute, the second at most n further
    not_together : (n j h t : ℕ) → j < h → h ≤ j + n → Does p k j t → Does p k h t → ⊥
    not_together zero j h t l m d e = absurd (omega arith)
    not_together (suc n) j h t l m d e = neighbours_apart j h t l d e (λ g a b c. not_together n j g t a (omega arith) d c)

    apart : (j h t u : ℕ) → Does p k j t → Does p k h u → j ≢ h → t ≢ u
    apart j h t u d e ne same = at (cases_lt j h)
      where
        here : Does p k h t
        here = subst (λ r. Does p k h r) (sym same) e

        at : (j < h) ⊎ (h ≤ j) → ⊥
        at (inl l) = not_together h j h t l (omega arith) d here
        at (inr m) = not_together j h j t (omega arith) (omega arith) here d

    follow : (j h t u : ℕ) → Does p k j t → Does p k h u → t < u
        → ((g s : ℕ) → Does p k g s → (s ≤ t) ⊎ (u ≤ s)) → CanFollow i j t h u
    follow j h t u d e l none = calm j t h u (record { first = d; second = e; order = inl l; none_between = between })
      where
        split : (g s : ℕ) → Does p k g s → IsBefore t j s g → IsBefore s g u h → (s ≤ t) ⊎ (u ≤ s) → ⊥
        split g s c (inl a) b (inl m) = absurd (omega arith)
        split g s c (inr a) b (inl m) = let ne : j ≢ g = omega arith in apart j g t s d c ne a.0
        split g s c a (inl b) (inr m) = absurd (omega arith)
        split g s c a (inr b) (inr m) = let ne : g ≢ h = omega arith in apart g h s u c e ne b.0

        between : (g s : ℕ) → Does p k g s → IsBefore t j s g → IsBefore s g u h → ⊥
        between g s c a b = split g s c a b (none g s c)

  pub feasible_from : ((k : ℕ) → k < length i.teams → HasNoClash i p k) → IsFeasible i p
  feasible_from calm = record {
    whole = of.whole;
    jobs = λ j job e. jobs j job (job_known p j job e) e;
    apart = λ k j h t u d e. apart k (calm k (of.known k j t d)) j h t u d e;
    follow = λ k j h t u d e. follow k (calm k (of.known k j t d)) j h t u d e;
  }

-- no team of a feasible plan has a clash
pub no_clash : (i : Instance) (p : Plan) (k : ℕ) → IsFeasible i p → HasNoClash i p k
no_clash i p k feasible j t h u next = at next.order
  where
    late : (g s : ℕ) → Does p k g s → t < s → (s ≤ t) ⊎ (u ≤ s)
    late g s c l = elim (cases_lt s u) [ inl m ↦ absurd (next.none_between g s c (inl l) (inl m)) | inr m ↦ inr m ]

    none : (g s : ℕ) → Does p k g s → (s ≤ t) ⊎ (u ≤ s)
    none g s c = elim (cases_lt t s) [ inl l ↦ late g s c l | inr m ↦ inl m ]

    at : IsBefore t j u h → CanFollow i j t h u
    at (inl l) = feasible.follow k j h t u next.first next.second l none
    at (inr e) = let ne : j ≢ h = let l = e.1 in omega arith in absurd (feasible.apart k j h t u next.first next.second ne e.0)

listed : (ks front : List ℕ) (k : ℕ) (back : List ℕ) → ks ≡ front ++ k ∷ back → Contains ks k
listed ks front k back e = rw e (Contains-append_right front (k ∷ back) k (0, omega arith, refl))

-- a good job has no fault
pub no_fault : (i : Instance) (j : ℕ) (job : Job) (told : PlanVerdict) → IsJobFault i j job told → IsJob i j job → ⊥
no_fault i j job told (Outside broken is) good = broken good.window
no_fault i j job told (Miscounted window broken is) good = broken good.list
no_fault i j job told (OfTeam window list front k back teams earlier (Unskilled broken is)) good = broken (good.fit k (listed job.teams front k back teams)).qualified
no_fault i j job told (OfTeam window list front k back teams earlier (OffShift qualified broken is)) good = broken (good.fit k (listed job.teams front k back teams)).in_shift

-- a legal plan has a place for each task, and knows its teams
pub legal_is_plan : (i : Instance) (p : Plan) → IsLegal i p → IsPlanOf i p
legal_is_plan i p legal = record {
  whole = legal.feasible.whole;
  known = λ k j t (job, e, s, c). (legal.feasible.jobs j job e).known k c;
}
