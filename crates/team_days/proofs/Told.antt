-- what is found on both sides of a minute tells the obstacle
use Rattle.std.proofs.Common.{◌≡◌, ◌≢◌, ◌≤◌, ◌<◌, ◌⊎◌, inl, inr, ℕ, Option, None, Some, arith, refl, sym, subst, ◌∙◌}
use Rattle.std.specs.Prelude.{◌↔◌, IfSome, MatchOption}
use Rattle.std.proofs.lemmas.Bool.{cases_order}
use Rattle.crew_terms.specs.Instance.{Instance, CanFollow, IsQualified, IsInShift}
use Rattle.crew_terms.specs.Plan.{Plan, Does}
use Rattle.crew_terms.specs.Legal.{IsFit, IsFeasible}
use Rattle.crew_instance.specs.declared.turns.Turn.{Turn}
use Rattle.team_days.specs.declared.obstacles.Obstacle.{Obstacle}
use Rattle.team_days.specs.declared.obstacles.Obstacle.TheVariants.{Free, Skill, Shift, Busy}
use Rattle.team_days.specs.Free.{IsLastBefore, IsFirstAfter, IsFreeFor}
use Rattle.team_days.specs.Obstacles.{IsNextFrom}

-- the first that holds of these: team k lacks a skill, is off its shift, begins a task then, comes too late from what it does before, comes too late to what it does after, or is free
pub data IsObstacle (i : Instance) (p : Plan) (k j t : ℕ) (told : Obstacle) : Type 0 where
  LacksSkill : (broken : IsQualified i k j → ⊥) (is : told ≡ Skill) → IsObstacle i p k j t told
  IsOffShift : (qualified : IsQualified i k j) (broken : IsInShift i k j t → ⊥) (is : told ≡ Shift) → IsObstacle i p k j t told
  BeginsThen : (fit : IsFit i j t k) (h : ℕ) (does : Does p k h t) (is : told ≡ Busy h) → IsObstacle i p k j t told
  ComesLate : (fit : IsFit i j t k) (idle : (g : ℕ) → Does p k g t → ⊥)
      (h s : ℕ) (last : IsLastBefore p k t h s) (broken : CanFollow i h s j t → ⊥) (is : told ≡ Busy h) → IsObstacle i p k j t told
  GoesOnLate : (fit : IsFit i j t k) (idle : (g : ℕ) → Does p k g t → ⊥) (comes : (h s : ℕ) → IsLastBefore p k t h s → CanFollow i h s j t)
      (h u : ℕ) (first : IsFirstAfter p k t h u) (broken : CanFollow i j t h u → ⊥) (is : told ≡ Busy h) → IsObstacle i p k j t told
  HasNone : (free : IsFreeFor i p k j t) (is : told ≡ Free) → IsObstacle i p k j t told

abbrev pub IsBeforeIt : Plan → ℕ → ℕ → Option Turn → Type 0
IsBeforeIt p k t o = MatchOption o ((h s : ℕ) → Does p k h s → t ≤ s) (λ v. IsLastBefore p k t v.task v.start)

abbrev pub IsNextIt : Plan → ℕ → ℕ → Option Turn → Type 0
IsNextIt p k t o = MatchOption o ((h s : ℕ) → Does p k h s → s < t) (IsNextFrom p k t)

module _ (i : Instance) (p : Plan) (k j t : ℕ) (feasible : IsFeasible i p) where
  -- a team begins one task at a minute
  pub one_task : (h g s : ℕ) → Does p k h s → Does p k g s → h ≡ g
  one_task h g s d e = by (cases_order h g)
    where
      by : (h ≡ g) ⊎ ((h < g) ⊎ (g < h)) → h ≡ g
      by (inl a) = a
      by (inr (inl a)) = absurd (feasible.apart k h g s s d e (λ same. omega arith) refl)
      by (inr (inr a)) = absurd (feasible.apart k h g s s d e (λ same. omega arith) refl)

  -- the last task before a minute is one alone
  pub one_last : (h s g r : ℕ) → IsLastBefore p k t h s → IsLastBefore p k t g r → (s ≡ r) × (h ≡ g)
  one_last h s g r a b = (same, one_task h g r (subst (λ x. Does p k h x) same a.does) b.does)
    where
      order : (r ≤ s) ⊎ (t ≤ r) → (s ≤ r) ⊎ (t ≤ s) → s ≡ r
      order (inl l) (inl m) = omega arith
      order (inl l) (inr m) = absurd (let x = a.before in omega arith)
      order (inr l) m = absurd (let x = b.before in omega arith)

      same : s ≡ r
      same = order (a.last g r b.does) (b.last h s a.does)

  -- and so is the first after it
  pub one_first : (h s g r : ℕ) → IsFirstAfter p k t h s → IsFirstAfter p k t g r → (s ≡ r) × (h ≡ g)
  one_first h s g r a b = (same, one_task h g r (subst (λ x. Does p k h x) same a.does) b.does)
    where
      order : (r ≤ t) ⊎ (s ≤ r) → (s ≤ t) ⊎ (r ≤ s) → s ≡ r
      order (inl l) m = absurd (let x = b.after in omega arith)
      order (inr l) (inl m) = absurd (let x = a.after in omega arith)
      order (inr l) (inr m) = omega arith

      same : s ≡ r
      same = order (a.first g r b.does) (b.first h s a.does)

  -- nothing begins at the minute, if the next turn doesn't
  pub idle_from : (o : Option Turn) → IsNextIt p k t o → IfSome o (λ v. v.start ≢ t) → (h : ℕ) → Does p k h t → ⊥
  idle_from None none later h d = absurd (let l = none h t d in omega arith)
  idle_from (Some v) next later h d = by (next.first h t d)
    where
      by : (t < t) ⊎ (v.start ≤ t) → ⊥
      by (inl l) = omega arith
      by (inr l) = later (let m = next.from in omega arith)

  pub comes_from : (o : Option Turn) → IsBeforeIt p k t o → IfSome o (λ v. CanFollow i v.task v.start j t) → (h s : ℕ) → IsLastBefore p k t h s → CanFollow i h s j t
  comes_from None none follow h s last = absurd (let l = none h s last.does in let m = last.before in omega arith)
  comes_from (Some v) is follow h s last = let one = one_last h s v.task v.start last is in rw (one.0, one.1) follow

  -- the next turn is the first after the minute, if it doesn't begin then
  first_from : (v : Turn) → IsNextFrom p k t v → v.start ≢ t → IsFirstAfter p k t v.task v.start
  first_from v next later = record {
    does = next.does;
    after = let l = next.from in by (cases_order v.start t) l;
    first = λ g r d. sides r (next.first g r d);
  }
    where
      by : (v.start ≡ t) ⊎ ((v.start < t) ⊎ (t < v.start)) → t ≤ v.start → t < v.start
      by (inl a) l = absurd (later a)
      by (inr (inl a)) l = absurd (omega arith)
      by (inr (inr a)) l = a

      sides : (r : ℕ) → (r < t) ⊎ (v.start ≤ r) → (r ≤ t) ⊎ (v.start ≤ r)
      sides r (inl l) = inl (omega arith)
      sides r (inr l) = inr l

  pub goes_on_from : (o : Option Turn) → IsNextIt p k t o → IfSome o (λ v. v.start ≢ t) → IfSome o (λ v. CanFollow i j t v.task v.start)
      → (h u : ℕ) → IsFirstAfter p k t h u → CanFollow i j t h u
  goes_on_from None none later follow h u first = absurd (let l = none h u first.does in let m = first.after in omega arith)
  goes_on_from (Some v) next later follow h u first = let one = one_first h u v.task v.start first (first_from v next later) in rw (one.0, one.1) follow

  module _ (fit : IsFit i j t k) where
    pub begins_then : (o : Option Turn) (h : ℕ) → IsNextIt p k t o → o ≡ Some (record { start = t; task = h }) → IsObstacle i p k j t (Busy h)
    begins_then o h next e =
        let at : IsNextIt p k t (Some (record { start = t; task = h })) = subst (IsNextIt p k t) e next in
        BeginsThen fit h at.does refl

    pub comes_late : (o : Option Turn) (h s : ℕ) → IsBeforeIt p k t o → ((g : ℕ) → Does p k g t → ⊥) → o ≡ Some (record { start = s; task = h }) → (CanFollow i h s j t → ⊥)
        → IsObstacle i p k j t (Busy h)
    comes_late o h s before idle e broken =
        let at : IsBeforeIt p k t (Some (record { start = s; task = h })) = subst (IsBeforeIt p k t) e before in
        ComesLate fit idle h s at broken refl

    pub goes_on_late : (o : Option Turn) (h u : ℕ) → IsNextIt p k t o → IfSome o (λ v. v.start ≢ t) → ((g : ℕ) → Does p k g t → ⊥)
        → ((g s : ℕ) → IsLastBefore p k t g s → CanFollow i g s j t) → o ≡ Some (record { start = u; task = h }) → (CanFollow i j t h u → ⊥)
        → IsObstacle i p k j t (Busy h)
    goes_on_late o h u next later idle comes e broken =
        let at : IsNextIt p k t (Some (record { start = u; task = h })) = subst (IsNextIt p k t) e next in
        let ne : IfSome (Some (record { start = u; task = h })) (λ (v : Turn). v.start ≢ t) = subst (λ (x : Option Turn). IfSome x (λ v. v.start ≢ t)) e later in
        GoesOnLate fit idle comes h u (first_from (record { start = u; task = h }) at ne) broken refl

-- an obstacle tells whether the team is free
pub tells_free : (i : Instance) (p : Plan) (k j t : ℕ) (told : Obstacle) → IsObstacle i p k j t told → (told ≡ Free) ↔ IsFreeFor i p k j t
tells_free i p k j t told (LacksSkill broken is) = ((λ e. let x : Skill ≡ Free = sym is ∙ e in cc), (λ free. absurd (broken free.fit.qualified)))
tells_free i p k j t told (IsOffShift qualified broken is) = ((λ e. let x : Shift ≡ Free = sym is ∙ e in cc), (λ free. absurd (broken free.fit.in_shift)))
tells_free i p k j t told (BeginsThen fit h does is) = ((λ e. let x : Busy h ≡ Free = sym is ∙ e in cc), (λ free. absurd (free.idle h does)))
tells_free i p k j t told (ComesLate fit idle h s last broken is) = ((λ e. let x : Busy h ≡ Free = sym is ∙ e in cc), (λ free. absurd (broken (free.comes h s last))))
tells_free i p k j t told (GoesOnLate fit idle comes h u first broken is) = ((λ e. let x : Busy h ≡ Free = sym is ∙ e in cc), (λ free. absurd (broken (free.goes_on h u first))))
tells_free i p k j t told (HasNone free is) = ((λ e. free), (λ _. is))
