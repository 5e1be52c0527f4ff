-- the one plan of a decided node in which no team is stuck and each task has all its teams or none
use Rattle.std.proofs.Common.{◌≡◌, ◌≢◌, ◌≤◌, ◌<◌, ℕ, Bool, true, false, cond, List, [], ◌∷◌, length, get_or, refl, ap, sym, subst, arith, ◌∙◌, ◌⊎◌, inl, inr, Option, None, Some}
use Rattle.std.specs.Prelude.{Contains}
use Rattle.std.proofs.lemmas.List.{get_or_past, ext_get_or}
use Rattle.std.proofs.lemmas.Bool.{cases_lt, cases_Bool, both_ways}
use Rattle.crew_terms.specs.Instance.{task_of, no_task, CanFollow}
use Rattle.crew_terms.specs.Legal.{IsJob, IsFeasible, IsLegal}
use Rattle.crew_terms.specs.Plan.{Plan, Job, job_of, Does}
use Rattle.crew_terms.specs.Rules.{IsInstance}
use Rattle.crew_terms.specs.Limits.{Limits, IsLimits, IsWithin, IsPermittedVisit, tasks_in, teams_in, window_of, pair_of, is_required, has_required}
use Rattle.crew_terms.specs.declared.Pair.TheVariants.{Free, Forbidden, Required}
use Rattle.crew_terms.specs.Minutes.{required_teams}
use Rattle.crew_terms.specs.Decided.{IsDecided}
use Rattle.crew_terms.specs.Nodes.{required_is}
use Rattle.crew_terms.specs.Below.{any_below-some, some_below}
use Rattle.search_terms.specs.Closing.{minute_of, IsStuck, NoMinute, NoTime}
use Rattle.search_laws.proofs.Worths.{positive}
use Rattle.search_laws.proofs.Potentials.{tell_visit, tell_follow}
use Rattle.search_laws.proofs.Decided.{of_required}
use Rattle.search_laws.proofs.Required.{IsRequiredPlan, RequiredAreListed, one_rising}

-- a required pair is of a task
pub known_required : (n : Limits) → IsLimits n → (k j : ℕ) → k < teams_in n → pair_of n k j ≡ Required → j < tasks_in n
known_required n is k j b e = by (cases_lt j (tasks_in n))
  where
    by : (j < tasks_in n) ⊎ (tasks_in n ≤ j) → j < tasks_in n
    by (inl lt) = lt
    by (inr ge) =
        let row : length (get_or n.pairs k []) ≡ tasks_in n = is.columns k [] (let r = is.rows in omega arith) in
        let f : pair_of n k j ≡ Free = get_or_past (get_or n.pairs k []) j Free (omega arith) in
        absurd (let g : Free ≡ Required = sym f ∙ e in cc)

module _ (listed : RequiredAreListed) (n : Limits) (is : IsInstance n.instance) (limits : IsLimits n) (decided : IsDecided n) where
  -- what team k does in a legal plan of the node is required of it
  pub does_required : (r : Plan) → IsLegal n.instance r → IsWithin n r → (k j t : ℕ) → Does r k j t → (k < teams_in n) × (j < tasks_in n) × (pair_of n k j ≡ Required) × (t ≡ minute_of n j)
  does_required r legal within k j t (job, e, s, c) =
      let job_is = legal.feasible.jobs j job e in
      let team = job_is.known k c in
      let task = below (cases_lt j (length r)) in
      let v : IsPermittedVisit n k j t = record {
        known = task;
        qualified = (job_is.fit k c).qualified;
        allowed = within.forbidden k j t (job, e, s, c);
        early = let a = within.early j job e in omega arith;
        late = let a = within.late j job e in omega arith;
        in_shift = let a = (job_is.fit k c).in_shift in rw (← s) a;
      } in
      let q = of_required n is decided k team j t v in
      (team, task, q.0, q.1)
    where
      below : (j < length r) ⊎ (length r ≤ j) → j < tasks_in n
      below (inl lt) = let w = legal.feasible.whole in omega arith
      below (inr ge) = let f : job_of r j ≡ None = get_or_past r j None ge in absurd (let g : None ≡ Some job = sym f ∙ e in cc)

  required_row : (j k : ℕ) → Contains (required_teams n j) k → (k < teams_in n) × (pair_of n k j ≡ Required)
  required_row j k c = ((listed n j).each k).0 c

  in_row : (j k : ℕ) → k < teams_in n → pair_of n k j ≡ Required → Contains (required_teams n j) k
  in_row j k b e = ((listed n j).each k).1 (b, e)

  module _ (q : Plan) (whole : IsRequiredPlan n q) where
    job_at : (j : ℕ) → has_required n j ≡ true → j < tasks_in n → job_of q j ≡ Some (record { start = minute_of n j; teams = required_teams n j })
    job_at j e b = whole.jobs j b ∙ ap (λ x. cond x (Some (record { start = minute_of n j; teams = required_teams n j })) None) e

    none_at : (j : ℕ) → has_required n j ≡ false → j < tasks_in n → job_of q j ≡ None
    none_at j e b = whole.jobs j b ∙ ap (λ x. cond x (Some (record { start = minute_of n j; teams = required_teams n j })) None) e

    -- every legal plan of the node has these jobs
    same_job : (r : Plan) → IsLegal n.instance r → IsWithin n r → (j : ℕ) → j < tasks_in n → (o : Option Job) → job_of r j ≡ o → (b : Bool) → has_required n j ≡ b → job_of r j ≡ job_of q j
    same_job r legal within j b None e true f =
        let x = some_below (teams_in n) (λ k. is_required (pair_of n k j)) f in
        let d = within.required x.0 j x.1 b (required_is (pair_of n x.0 j) x.2) in
        absurd (let g : None ≡ Some d.1.0 = sym e ∙ d.1.1 in cc)
    same_job r legal within j b None e false f = e ∙ sym (none_at j f b)
    same_job r legal within j b (Some job) e true f =
        let job_is = legal.feasible.jobs j job e in
        let teams = one_rising job.teams (required_teams n j) job_is.list.rising (listed n j).rising
        (λ k c. let d = does_required r legal within k j job.start (job, e, refl, c) in in_row j k d.0 d.2)
        (λ k c. let x = required_row j k c in let d = within.required k j x.0 b x.1 in contains k d.1 e) in
        let some : Contains job.teams (get_or job.teams 0 0) = (0, length_some job_is.list.count (is.parts.tasks j no_task b).teams.some, refl_at job.teams (length_some job_is.list.count (is.parts.tasks j no_task b).teams.some)) in
        let start = (does_required r legal within (get_or job.teams 0 0) j job.start (job, e, refl, some)).3 in
        e ∙ ap Some (job_same job start teams) ∙ sym (job_at j f b)
      where
        length_some : length job.teams ≡ (task_of n.instance j).teams → 1 ≤ (task_of n.instance j).teams → 0 < length job.teams
        length_some x y = omega arith

        refl_at : (xs : List ℕ) → 0 < length xs → get_or xs 0 (get_or xs 0 0) ≡ get_or xs 0 0
        refl_at [] h = absurd (omega arith)
        refl_at (x ∷ xs) h = refl

        contains : (k : ℕ) {t : ℕ} → Does r k j t → job_of r j ≡ Some job → Contains job.teams k
        contains k (other, f, s, c) e' = let g : Some other ≡ Some job = sym f ∙ e' in let h : other ≡ job = cc in subst (λ (x : Job). Contains x.teams k) h c

        job_same : (a : Job) → a.start ≡ minute_of n j → a.teams ≡ required_teams n j → a ≡ record { start = minute_of n j; teams = required_teams n j }
        job_same a s t = ap (λ x. record { start = x; teams = a.teams }) s ∙ ap (λ x. record { start = minute_of n j; teams = x }) t
    same_job r legal within j b (Some job) e false f =
        let job_is = legal.feasible.jobs j job e in
        let l : 0 < length job.teams = let x = job_is.list.count in let y = (is.parts.tasks j no_task b).teams.some in omega arith in
        let d = does_required r legal within (get_or job.teams 0 0) j job.start (job, e, refl, (0, l, refl_at job.teams l)) in
        absurd (both_ways (has_required n j) f (any_below-some (teams_in n) (λ k. is_required (pair_of n k j)) (get_or job.teams 0 0) d.0 (ap is_required d.2)))
      where
        refl_at : (xs : List ℕ) → 0 < length xs → get_or xs 0 (get_or xs 0 0) ≡ get_or xs 0 0
        refl_at [] h = absurd (omega arith)
        refl_at (x ∷ xs) h = refl

    pub only_plan : (r : Plan) → IsLegal n.instance r → IsWithin n r → r ≡ q
    only_plan r legal within = ext_get_or None r q (let a = legal.feasible.whole in let b = whole.whole in omega arith)
        (λ j l. same_job r legal within j (let a = legal.feasible.whole in omega arith) (job_of r j) refl (has_required n j) refl)

    -- what team k does in the plan
    does_at : (k j t : ℕ) → Does q k j t → (k < teams_in n) × (j < tasks_in n) × (pair_of n k j ≡ Required) × (t ≡ minute_of n j) × (has_required n j ≡ true)
    does_at k j t (job, e, s, c) = by (cases_lt j (tasks_in n)) (cases_Bool (has_required n j))
      where
        by : (j < tasks_in n) ⊎ (tasks_in n ≤ j) → (has_required n j ≡ true) ⊎ (has_required n j ≡ false) → (k < teams_in n) × (j < tasks_in n) × (pair_of n k j ≡ Required) × (t ≡ minute_of n j) × (has_required n j ≡ true)
        by (inl lt) (inl some) =
            let f : Some job ≡ Some (record { start = minute_of n j; teams = required_teams n j }) = sym e ∙ job_at j some lt in
            let g : job ≡ record { start = minute_of n j; teams = required_teams n j } = cc in
            let row = required_row j k (subst (λ (x : Job). Contains x.teams k) g c) in
            (row.0, lt, row.1, sym s ∙ ap (λ (x : Job). x.start) g, some)
        by (inl lt) (inr none) = absurd (let f : Some job ≡ None = sym e ∙ none_at j none lt in cc)
        by (inr ge) x = absurd (let f : job_of q j ≡ None = get_or_past q j None (let w = whole.whole in omega arith) in let g : Some job ≡ None = sym e ∙ f in cc)

    pub within_node : IsWithin n q
    within_node = record {
      early = λ j job e. early j job e (cases_lt j (tasks_in n)) (cases_Bool (has_required n j));
      late = λ j job e. late j job e (cases_lt j (tasks_in n)) (cases_Bool (has_required n j));
      forbidden = λ k j t d e. (let f : Required ≡ Forbidden = sym (does_at k j t d).2 ∙ e in cc);
      required = λ k j a b e. (minute_of n j, (record { start = minute_of n j; teams = required_teams n j }, job_at j (any_below-some (teams_in n) (λ h. is_required (pair_of n h j)) k a (ap is_required e)) b, refl, in_row j k a e));
    }
      where
        start : (j : ℕ) (job : Job) → job_of q j ≡ Some job → (j < tasks_in n) ⊎ (tasks_in n ≤ j) → (has_required n j ≡ true) ⊎ (has_required n j ≡ false) → (job.start ≡ minute_of n j) × (j < tasks_in n)
        start j job e (inl lt) (inl some) = let f : Some job ≡ Some (record { start = minute_of n j; teams = required_teams n j }) = sym e ∙ job_at j some lt in let g : job ≡ record { start = minute_of n j; teams = required_teams n j } = cc in (ap (λ (x : Job). x.start) g, lt)
        start j job e (inl lt) (inr none) = absurd (let f : Some job ≡ None = sym e ∙ none_at j none lt in cc)
        start j job e (inr ge) x = absurd (let f : job_of q j ≡ None = get_or_past q j None (let w = whole.whole in omega arith) in let g : Some job ≡ None = sym e ∙ f in cc)

        early : (j : ℕ) (job : Job) → job_of q j ≡ Some job → (j < tasks_in n) ⊎ (tasks_in n ≤ j) → (has_required n j ≡ true) ⊎ (has_required n j ≡ false) → (window_of n j).0 ≤ job.start
        early j job e x y = let s = start j job e x y in omega arith

        late : (j : ℕ) (job : Job) → job_of q j ≡ Some job → (j < tasks_in n) ⊎ (tasks_in n ≤ j) → (has_required n j ≡ true) ⊎ (has_required n j ≡ false) → job.start ≤ (window_of n j).1
        late j job e x y = let s = start j job e x y in let d = decided.windows j s.1 in omega arith

    -- no team is stuck, and a task with a required pair has all its teams: the plan is legal
    module _ (free : (k : ℕ) → k < teams_in n → IsStuck n k → ⊥) (all : (j : ℕ) → j < tasks_in n → has_required n j ≡ true → length (required_teams n j) ≡ (task_of n.instance j).teams) where
      may : (k j : ℕ) → k < teams_in n → pair_of n k j ≡ Required → IsPermittedVisit n k j (minute_of n j)
      may k j b e = by (tell_visit n k j (minute_of n j))
        where
          by : IsPermittedVisit n k j (minute_of n j) ⊎ (IsPermittedVisit n k j (minute_of n j) → ⊥) → IsPermittedVisit n k j (minute_of n j)
          by (inl v) = v
          by (inr bar) = absurd (free k b (NoMinute j e (λ v. bar (subst (IsPermittedVisit n k j) (of_required n is decided k b j v.0 v.1).1 v.1))))

      can_follow : (k j h : ℕ) → k < teams_in n → pair_of n k j ≡ Required → pair_of n k h ≡ Required → j ≢ h → minute_of n j ≤ minute_of n h
          → ((g : ℕ) → pair_of n k g ≡ Required → (minute_of n g ≤ minute_of n j) ⊎ (minute_of n h ≤ minute_of n g)) → CanFollow n.instance j (minute_of n j) h (minute_of n h)
      can_follow k j h b x y ne order neighbours = by (tell_follow n.instance j (minute_of n j) h (minute_of n h))
        where
          by : CanFollow n.instance j (minute_of n j) h (minute_of n h) ⊎ (CanFollow n.instance j (minute_of n j) h (minute_of n h) → ⊥) → CanFollow n.instance j (minute_of n j) h (minute_of n h)
          by (inl f) = f
          by (inr late) = absurd (free k b (NoTime j h x y ne order neighbours late))

      job_good : (j : ℕ) (job : Job) → job_of q j ≡ Some job → IsJob n.instance j job
      job_good j job e = by (cases_lt j (tasks_in n)) (cases_Bool (has_required n j))
        where
          by : (j < tasks_in n) ⊎ (tasks_in n ≤ j) → (has_required n j ≡ true) ⊎ (has_required n j ≡ false) → IsJob n.instance j job
          by (inl lt) (inr none) = absurd (let f : Some job ≡ None = sym e ∙ none_at j none lt in cc)
          by (inr ge) x = absurd (let f : job_of q j ≡ None = get_or_past q j None (let w = whole.whole in omega arith) in let g : Some job ≡ None = sym e ∙ f in cc)
          by (inl lt) (inl some) =
              let f : Some job ≡ Some (record { start = minute_of n j; teams = required_teams n j }) = sym e ∙ job_at j some lt in
              let g : job ≡ record { start = minute_of n j; teams = required_teams n j } = cc in
              subst (IsJob n.instance j) (sym g) (record {
                window = record { early = limits.early j lt; late = let a = limits.late j lt in let b = limits.order j lt in omega arith };
                list = record { rising = (listed n j).rising; count = all j lt some };
                known = λ k c. (required_row j k c).0;
                fit = λ k c. let x = required_row j k c in let m = may k j x.0 x.1 in record { qualified = m.qualified; in_shift = m.in_shift };
              })

      pub plan_feasible : IsFeasible n.instance q
      plan_feasible = record {
        whole = whole.whole;
        jobs = job_good;
        apart = λ k j h t u d e ne same.
            let x = does_at k j t d in
            let y = does_at k h u e in
            let f = can_follow k j h x.0 x.2 y.2 ne (let a = x.3 in let b = y.3 in omega arith) (λ g z. at (cases_lt (minute_of n g) (minute_of n j)) (let a = x.3 in let b = y.3 in omega arith)) in
            let p = positive n.instance is j x.1 in
            let a = x.3 in let b = y.3 in absurd (omega arith);
        follow = λ k j h t u d e lt between.
            let x = does_at k j t d in
            let y = does_at k h u e in
            let ne : j ≢ h = λ s. (let a = x.3 in let b = y.3 in let m = ap (minute_of n) s in absurd (omega arith)) in
            let f = can_follow k j h x.0 x.2 y.2 ne (let a = x.3 in let b = y.3 in omega arith)
            (λ g z. subst (λ v. (minute_of n g ≤ v) ⊎ (minute_of n h ≤ minute_of n g)) x.3 (subst (λ v. (minute_of n g ≤ t) ⊎ (v ≤ minute_of n g)) y.3 (between g (minute_of n g) (does_required_task k g x.0 z)))) in
            subst (λ v. CanFollow n.instance j v h u) (sym x.3) (subst (λ v. CanFollow n.instance j (minute_of n j) h v) (sym y.3) f);
      }
        where
          at : {a b c : ℕ} → (a < b) ⊎ (b ≤ a) → b ≡ c → (a ≤ b) ⊎ (c ≤ a)
          at (inl lt) e = inl (omega arith)
          at (inr ge) e = inr (omega arith)

          does_required_task : (k g : ℕ) → k < teams_in n → pair_of n k g ≡ Required → Does q k g (minute_of n g)
          does_required_task k g b z =
              let lt = known_required n limits k g b z in
              (record { start = minute_of n g; teams = required_teams n g }, job_at g (any_below-some (teams_in n) (λ h. is_required (pair_of n h g)) k b (ap is_required z)) lt, refl, in_row g k b z)
