-- a job more: what its teams do then, and when the plan stays feasible
use Rattle.std.proofs.Common.{◌≡◌, ◌≢◌, ◌≤◌, ◌<◌, ◌⊎◌, inl, inr, ℕ, length, Option, None, Some, arith, refl, sym, subst, ap, ◌∙◌, get_or-set_same, get_or-set_other, List, ◌+◌, cond}
use Rattle.std.specs.Prelude.{Contains, ◌↔◌, is_none}
use Rattle.std.proofs.Math.ListN.{length-set}
use Rattle.std.proofs.lemmas.Bool.{cases_order}
use Rattle.std.proofs.lemmas.List.Sums.{sum_by-set}
use Rattle.crew_terms.specs.Instance.{Instance, CanFollow}
use Rattle.crew_terms.specs.Plan.{Plan, Job, job_of, Does, unassigned_count}
use Rattle.crew_terms.specs.Legal.{IsJob, IsFeasible, IsLegal, IsPacked}
use Rattle.crew_instance.specs.Turns.{AreTurns}
use Rattle.crew_instance.specs.declared.turns.Turn.{Turn}
use Rattle.team_days.specs.Free.{IsLastBefore, IsFirstAfter}
use Rattle.team_days.specs.Adding.{AreFree, FitsNowhere, IsAddition, with_job}

module _ (p : Plan) (j : ℕ) (job : Job) (l : j < length p) (none : job_of p j ≡ None) where
  pub new_job : job_of (with_job p j job) j ≡ Some job
  new_job = get_or-set_same p j (Some job) None l

  pub same_job : (h : ℕ) → h ≢ j → job_of (with_job p j job) h ≡ job_of p h
  same_job h ne = get_or-set_other p j h (Some job) None ne

  begun : (h : ℕ) (other : Job) → job_of p h ≡ Some other → h ≢ j
  begun h other e same = let x : job_of p h ≡ None = subst (λ g. job_of p g ≡ None) (sym same) none in let y : Some other ≡ None = sym e ∙ x in cc

  pub kept_job : (h : ℕ) (other : Job) → job_of p h ≡ Some other → job_of (with_job p j job) h ≡ Some other
  kept_job h other e = same_job h (begun h other e) ∙ e

  does_new : (k : ℕ) → Contains job.teams k → Does (with_job p j job) k j job.start
  does_new k m = (job, new_job, refl, m)

  does_old : (k h s : ℕ) → Does p k h s → Does (with_job p j job) k h s
  does_old k h s (other, e, f, m) = (other, kept_job h other e, f, m)

  -- what a team does in the new plan is the new job, or what it did
  record IsNew (k h s : ℕ) : Type 0 where
    pub task : h ≡ j
    pub start : s ≡ job.start
    pub team : Contains job.teams k

  does_cases : (k h s : ℕ) → Does (with_job p j job) k h s → IsNew k h s ⊎ Does p k h s
  does_cases k h s (other, e, f, m) = at (cases_order h j)
    where
      old : h ≢ j → Does p k h s
      old ne = (other, sym (same_job h ne) ∙ e, f, m)

      at : (h ≡ j) ⊎ ((h < j) ⊎ (j < h)) → IsNew k h s ⊎ Does p k h s
      at (inl same) =
          let x : Some other ≡ Some job = sym e ∙ ap (job_of (with_job p j job)) same ∙ new_job in
          let y : other ≡ job = cc in
          inl (record { task = same; start = sym f ∙ ap (λ (o : Job). o.start) y; team = subst (λ (o : Job). Contains o.teams k) y m })
      at (inr (inl a)) = inr (old (λ same. omega arith))
      at (inr (inr a)) = inr (old (λ same. omega arith))

  -- who is not one of the job's teams does what it did
  pub other_day : (k n : ℕ) (vs : List Turn) → (Contains job.teams k → ⊥) → AreTurns p k n vs → AreTurns (with_job p j job) k n vs
  other_day k n vs other are = record {
    few = are.few;
    order = are.order;
    done = λ v c. let d = are.done v c in (does_old k v.task v.start d.0, d.1);
    all = λ h s m d. are.all h s m (old h s (does_cases k h s d));
  }
    where
      old : (h s : ℕ) → IsNew k h s ⊎ Does p k h s → Does p k h s
      old h s (inl new) = absurd (other new.team)
      old h s (inr d) = d

  module _ (i : Instance) where
    pub free_if_feasible : IsFeasible i (with_job p j job) → AreFree i p j job
    free_if_feasible is k m = record {
      known = (is.jobs j job new_job).known k m;
      fit = (is.jobs j job new_job).fit k m;
      idle = λ h d. is.apart k j h job.start job.start (does_new k m) (does_old k h job.start d) (λ e. begun h d.0 d.1 (sym e)) refl;
      comes = λ h s last. is.follow k h j s job.start (does_old k h s last.does) (does_new k m) last.before (λ g r d. before h s last g r (does_cases k g r d));
      goes_on = λ h u first. is.follow k j h job.start u (does_new k m) (does_old k h u first.does) first.after (λ g r d. after h u first g r (does_cases k g r d));
    }
      where
        before : (h s : ℕ) → IsLastBefore p k job.start h s → (g r : ℕ) → IsNew k g r ⊎ Does p k g r → (r ≤ s) ⊎ (job.start ≤ r)
        before h s last g r (inl new) = inr (let e = new.start in omega arith)
        before h s last g r (inr old) = last.last g r old

        after : (h u : ℕ) → IsFirstAfter p k job.start h u → (g r : ℕ) → IsNew k g r ⊎ Does p k g r → (r ≤ job.start) ⊎ (u ≤ r)
        after h u first g r (inl new) = inl (let e = new.start in omega arith)
        after h u first g r (inr old) = first.first g r old

    module _ (feasible : IsFeasible i p) (addition : IsAddition i p j job) (free : AreFree i p j job) where
      job_is : IsJob i j job
      job_is = record {
        window = addition.window;
        list = addition.list;
        known = λ k m. (free k m).known;
        fit = λ k m. (free k m).fit;
      }

      jobs : (h : ℕ) (other : Job) → job_of (with_job p j job) h ≡ Some other → (h ≡ j) ⊎ ((h < j) ⊎ (j < h)) → IsJob i h other
      jobs h other e (inl same) =
          let x : Some job ≡ Some other = sym new_job ∙ ap (job_of (with_job p j job)) (sym same) ∙ e in
          let y : job ≡ other = cc in
          subst (λ g. IsJob i g other) (sym same) (subst (IsJob i j) y job_is)
      jobs h other e (inr (inl a)) = feasible.jobs h other (sym (same_job h (λ same. omega arith)) ∙ e)
      jobs h other e (inr (inr a)) = feasible.jobs h other (sym (same_job h (λ same. omega arith)) ∙ e)

      apart : (k a b t u : ℕ) → IsNew k a t ⊎ Does p k a t → IsNew k b u ⊎ Does p k b u → a ≢ b → t ≢ u
      apart k a b t u (inl x) (inl y) ne e = ne (x.task ∙ sym y.task)
      apart k a b t u (inl x) (inr y) ne e = (free k x.team).idle b (subst (λ r. Does p k b r) (sym e ∙ x.start) y)
      apart k a b t u (inr x) (inl y) ne e = (free k y.team).idle a (subst (λ r. Does p k a r) (e ∙ y.start) x)
      apart k a b t u (inr x) (inr y) ne e = feasible.apart k a b t u x y ne e

      follow : (k a b t u : ℕ) → IsNew k a t ⊎ Does p k a t → IsNew k b u ⊎ Does p k b u → t < u
          → ((g s : ℕ) → Does p k g s → (s ≤ t) ⊎ (u ≤ s)) → CanFollow i a t b u
      follow k a b t u (inl x) (inl y) l between = absurd (let e = x.start in let f = y.start in omega arith)
      follow k a b t u (inl x) (inr y) l between =
          let m : job.start < u = let e = x.start in omega arith in
          let first : (g s : ℕ) → Does p k g s → (s ≤ job.start) ⊎ (u ≤ s) = subst (λ r. (g s : ℕ) → Does p k g s → (s ≤ r) ⊎ (u ≤ s)) x.start between in
          rw (x.task, x.start) ((free k x.team).goes_on b u (record { does = y; after = m; first = first }))
      follow k a b t u (inr x) (inl y) l between =
          let m : t < job.start = let e = y.start in omega arith in
          let last : (g s : ℕ) → Does p k g s → (s ≤ t) ⊎ (job.start ≤ s) = subst (λ r. (g s : ℕ) → Does p k g s → (s ≤ t) ⊎ (r ≤ s)) y.start between in
          rw (y.task, y.start) ((free k y.team).comes a t (record { does = x; before = m; last = last }))
      follow k a b t u (inr x) (inr y) l between = feasible.follow k a b t u x y l between

      pub feasible_if_free : IsFeasible i (with_job p j job)
      feasible_if_free = record {
        whole = length-set p j (Some job) ∙ feasible.whole;
        jobs = λ h other e. jobs h other e (cases_order h j);
        apart = λ k a b t u d e. apart k a b t u (does_cases k a t d) (does_cases k b u e);
        follow = λ k a b t u d e m none. follow k a b t u (does_cases k a t d) (does_cases k b u e) m (λ g s c. none g s (does_old k g s c));
      }

module _ (i : Instance) (p : Plan) where
  module _ (j : ℕ) (job : Job) (addition : IsAddition i p j job) where
    pub feasible_law : IsFeasible i p → IsFeasible i (with_job p j job) ↔ AreFree i p j job
    feasible_law feasible =
        let l : j < length p = let a = feasible.whole in let b = addition.task in omega arith in
        (free_if_feasible p j job l addition.unassigned i, feasible_if_free p j job l addition.unassigned i feasible addition)

    pub legal_law : IsLegal i p → IsLegal i (with_job p j job) ↔ AreFree i p j job
    legal_law legal =
        let l : j < length p = let a = legal.feasible.whole in let b = addition.task in omega arith in
        let law = feasible_law legal.feasible in (
          (λ is. law.0 is.feasible),
          (λ free. record { feasible = law.1 free; frozen = λ h frozen e. kept_job p j job l addition.unassigned h frozen (legal.frozen h frozen e) }),
        )

  pub packed_law : IsLegal i p → IsPacked i p ↔ ((j : ℕ) → FitsNowhere i p j)
  packed_law legal = (
    (λ packed j job addition free. packed j job addition.task addition.unassigned ((legal_law j job addition legal).1 free)),
    (λ nowhere j job task none is.
        let l : j < length p = let a = legal.feasible.whole in omega arith in
        let good = is.feasible.jobs j job (new_job p j job l none) in
        let addition : IsAddition i p j job = record { task = task; unassigned = none; window = good.window; list = good.list } in
        nowhere j job addition ((legal_law j job addition legal).0 is)),
  )

-- with a job in the place of nothing, one task less is unassigned
pub one_less : (p : Plan) (j : ℕ) (job : Job) → j < length p → job_of p j ≡ None → unassigned_count (with_job p j job) + 1 ≡ unassigned_count p
one_less p j job l none =
    let one : Option Job → ℕ = λ o. cond (is_none o) 1 0 in
    let e : unassigned_count (with_job p j job) + one (job_of p j) ≡ unassigned_count p + 0 = sum_by-set one p j (Some job) None l in
    let f : unassigned_count (with_job p j job) + 1 ≡ unassigned_count p + 0 = subst (λ (o : Option Job). unassigned_count (with_job p j job) + one o ≡ unassigned_count p + 0) none e in
    omega arith
