-- what a team does in order tells whether it is stuck
use Rattle.std.proofs.Common.{◌≡◌, ◌≢◌, ◌≤◌, ◌<◌, ◌+◌, ◌⊎◌, inl, inr, ℕ, List, length, sym, ap, subst, arith, ◌∙◌}
use Rattle.std.specs.Prelude.{Contains}
use Rattle.std.proofs.lemmas.Bool.{cases_lt, cases_eq}
use Rattle.std.proofs.lemmas.List.{get_or_default}
use Rattle.std.proofs.lemmas.List.Elements.{Contains-get_or}
use Rattle.std.proofs.lemmas.List.FromFn.{length-map-range_with_len}
use Rattle.crew_terms.specs.Instance.{CanFollow, no_task}
use Rattle.crew_terms.specs.Limits.{Limits, IsLimits, IsPermittedVisit, IsPermittedStep, pair_of, tasks_in}
use Rattle.crew_terms.specs.Plan.{Plan}
use Rattle.crew_terms.specs.Rules.{IsInstance}
use Rattle.crew_terms.specs.Verdict.{IsBefore}
use Rattle.crew_terms.specs.declared.Pair.TheVariants.{Required}
use Rattle.crew_instance.specs.Turns.{AreTurns}
use Rattle.crew_instance.specs.declared.turns.Turn.{Turn}
use Rattle.crew_terms.specs.Decided.{IsDecided, MayBegin}
use Rattle.search_terms.specs.Closing.{IsStuck, NoMinute, NoTime, minute_of, required_job, required_plan}
use Rattle.leaf_close.specs.Turns.{CanFollowAll, CanNotFollow, MayBeginAll, MayNotBegin, turn_at}
use Rattle.leaf_close.proofs.Doing.{RequiredAreListed, does, done, known_task}

-- the turns of the plan of the required pairs
pub required_turns : (n : Limits) (plan : Plan) (k : ℕ) (items turns : List Turn) → plan ≡ required_plan n → AreTurns plan k (length plan) items → turns ≡ items → AreTurns (required_plan n) k (tasks_in n) turns
required_turns n plan k items turns e are same =
    subst (λ m. AreTurns (required_plan n) k m turns) (length-map-range_with_len (required_job n) 0 (tasks_in n))
    (subst (λ (p : Plan). AreTurns p k (length p) turns) e (subst (AreTurns plan k (length plan)) (sym same) are))

module _ (listed : RequiredAreListed) (n : Limits) (instance : IsInstance n.instance) (is : IsLimits n) (decided : IsDecided n) (k : ℕ) (turns : List Turn) (are : AreTurns (required_plan n) k (tasks_in n) turns) where
  -- ---- a turn is of a required pair, at the task's minute, and each required pair has one

  of_turn : (v : Turn) → Contains turns v → (pair_of n k v.task ≡ Required) × (v.start ≡ minute_of n v.task)
  of_turn v c = done n is listed k v.task v.start ((are.done v c).0)

  at_place : (i : ℕ) → i < length turns → Contains turns (turn_at turns i)
  at_place i l = Contains-get_or turns i (record { start = 0; task = 0 }) l

  of_place : (i : ℕ) → i < length turns → (pair_of n k (turn_at turns i).task ≡ Required) × ((turn_at turns i).start ≡ minute_of n (turn_at turns i).task)
  of_place i l = of_turn (turn_at turns i) (at_place i l)

  abbrev IsPlace : ℕ → ℕ → Type 0
  IsPlace j i = (i < length turns) × ((turn_at turns i).task ≡ j) × ((turn_at turns i).start ≡ minute_of n j)

  place_of : (j : ℕ) → pair_of n k j ≡ Required → (i : ℕ) × IsPlace j i
  place_of j e = from (are.all j (minute_of n j) (known_task n is k j e) (does n is listed k j e))
    where
      from : Contains turns (record { start = minute_of n j; task = j }) → (i : ℕ) × IsPlace j i
      from (i, l, q) =
          let same = get_or_default turns i (record { start = 0; task = 0 }) (record { start = minute_of n j; task = j }) l ∙ q in
          (i, (l, ap (λ (v : Turn). v.task) same, ap (λ (v : Turn). v.start) same))

  -- ---- turns stand by start

  no_later : (a b : ℕ) → a < b → b < length turns → (turn_at turns a).start ≤ (turn_at turns b).start
  no_later a b lt l = by (are.order a b (record { start = 0; task = 0 }) lt l)
    where
      by : IsBefore (turn_at turns a).start (turn_at turns a).task (turn_at turns b).start (turn_at turns b).task → (turn_at turns a).start ≤ (turn_at turns b).start
      by (inl h) = omega arith
      by (inr h) = let e = h.0 in omega arith

  other_tasks : (a b : ℕ) → a < b → b < length turns → (turn_at turns a).task ≢ (turn_at turns b).task
  other_tasks a b lt l e = by (are.order a b (record { start = 0; task = 0 }) lt l)
    where
      by : IsBefore (turn_at turns a).start (turn_at turns a).task (turn_at turns b).start (turn_at turns b).task → ⊥
      by (inl h) =
          let x = (of_place a (omega arith)).1 in
          let y = (of_place b l).1 in
          let z = ap (minute_of n) e in
          omega arith
      by (inr h) = let x = h.1 in omega arith

  -- ---- what makes the team stuck

  pub stuck_by_minute : MayNotBegin n k turns → IsStuck n k
  stuck_by_minute (v, c, bar) = NoMinute v.task (of_turn v c).0 no_minute
    where
      no_minute : MayBegin n k v.task → ⊥
      no_minute (t, visit) =
          let a = decided.windows v.task visit.known in
          let b = visit.early in
          let d = visit.late in
          let e = (of_turn v c).1 in
          let same : t ≡ v.start = omega arith in
          bar (subst (IsPermittedVisit n k v.task) same visit)

  pub stuck_by_step : CanNotFollow n turns → IsStuck n k
  stuck_by_step (i, l, bar) = NoTime (turn_at turns i).task (turn_at turns (i + 1)).task (of_place i (omega arith)).0 (of_place (i + 1) l).0 other order neighbours late
    where
      other : (turn_at turns i).task ≢ (turn_at turns (i + 1)).task
      other = other_tasks i (i + 1) (omega arith) l

      order : minute_of n (turn_at turns i).task ≤ minute_of n (turn_at turns (i + 1)).task
      order =
          let a = (of_place i (omega arith)).1 in
          let b = (of_place (i + 1) l).1 in
          let d = no_later i (i + 1) (omega arith) l in
          omega arith

      neighbours : (g : ℕ) → pair_of n k g ≡ Required → (minute_of n g ≤ minute_of n (turn_at turns i).task) ⊎ (minute_of n (turn_at turns (i + 1)).task ≤ minute_of n g)
      neighbours g e = at (place_of g e)
        where
          at : (a : ℕ) × IsPlace g a → (minute_of n g ≤ minute_of n (turn_at turns i).task) ⊎ (minute_of n (turn_at turns (i + 1)).task ≤ minute_of n g)
          at (a, p) = side (cases_lt a i) (cases_lt (i + 1) a)
            where
              side : (a < i) ⊎ (i ≤ a) → (i + 1 < a) ⊎ (a ≤ i + 1) → (minute_of n g ≤ minute_of n (turn_at turns i).task) ⊎ (minute_of n (turn_at turns (i + 1)).task ≤ minute_of n g)
              side (inl lt) x = inl (let d = no_later a i lt (omega arith) in let b = (of_place i (omega arith)).1 in let q = p.2 in omega arith)
              side (inr ge) (inl lt) = inr (let d = no_later (i + 1) a lt p.0 in let b = (of_place (i + 1) l).1 in let q = p.2 in omega arith)
              side (inr ge) (inr le) = near (cases_eq a i)
                where
                  near : (a ≡ i) ⊎ (a ≡ i → ⊥) → (minute_of n g ≤ minute_of n (turn_at turns i).task) ⊎ (minute_of n (turn_at turns (i + 1)).task ≤ minute_of n g)
                  near (inl s) = inl (let x = ap (minute_of n) (sym p.1 ∙ ap (λ b. (turn_at turns b).task) s) in omega arith)
                  near (inr ne) = let s : a ≡ i + 1 = omega arith in inr (let x = ap (minute_of n) (sym p.1 ∙ ap (λ b. (turn_at turns b).task) s) in omega arith)

      late : CanFollow n.instance (turn_at turns i).task (minute_of n (turn_at turns i).task) (turn_at turns (i + 1)).task (minute_of n (turn_at turns (i + 1)).task) → ⊥
      late follow =
          let a = (of_place i (omega arith)).1 in
          let b = (of_place (i + 1) l).1 in
          bar (record { other = other; follow = omega arith })

  -- ---- a team that can do each turn, one after the other, is not stuck

  module _ (begin : MayBeginAll n k turns) (follow : CanFollowAll n turns) where
    rises : (a b : ℕ) → a < b → b < length turns → (turn_at turns a).start < (turn_at turns b).start
    rises a b lt l =
        let step = follow a (omega arith) in
        let f = step.follow in
        let minutes = (instance.parts.tasks (turn_at turns a).task no_task (known_task n is k (turn_at turns a).task (of_place a (omega arith)).0)).window.some_minutes in
        let next : (turn_at turns a).start < (turn_at turns (a + 1)).start = omega arith in
        by next (cases_eq (a + 1) b)
      where
        by : (turn_at turns a).start < (turn_at turns (a + 1)).start → (a + 1 ≡ b) ⊎ (a + 1 ≡ b → ⊥) → (turn_at turns a).start < (turn_at turns b).start
        by next (inl e) = subst (λ i. (turn_at turns a).start < (turn_at turns i).start) e next
        by next (inr ne) = let h = no_later (a + 1) b (omega arith) l in omega arith

    pub not_stuck : IsStuck n k → ⊥
    not_stuck (NoMinute j required none) = from (place_of j required)
      where
        from : (a : ℕ) × IsPlace j a → ⊥
        from (a, p) =
            let visit = begin a (record { start = 0; task = 0 }) p.0 in
            none ((turn_at turns a).start, subst (λ i. IsPermittedVisit n k i (turn_at turns a).start) p.1 visit)
    not_stuck (NoTime j h first second other order neighbours late) = from (place_of j first) (place_of h second)
      where
        from : (a : ℕ) × IsPlace j a → (b : ℕ) × IsPlace h b → ⊥
        from (a, p) (b, q) = side (cases_lt a b) (cases_lt (a + 1) b)
          where
            side : (a < b) ⊎ (b ≤ a) → (a + 1 < b) ⊎ (b ≤ a + 1) → ⊥
            side (inr ge) x = near (cases_eq a b)
              where
                near : (a ≡ b) ⊎ (a ≡ b → ⊥) → ⊥
                near (inl e) = other (sym p.1 ∙ ap (λ i. (turn_at turns i).task) e ∙ q.1)
                near (inr ne) = let r = rises b a (omega arith) p.0 in let x = p.2 in let y = q.2 in absurd (omega arith)
            side (inl lt) (inl far) = between (neighbours (turn_at turns (a + 1)).task (of_place (a + 1) (omega arith)).0)
              where
                between : (minute_of n (turn_at turns (a + 1)).task ≤ minute_of n j) ⊎ (minute_of n h ≤ minute_of n (turn_at turns (a + 1)).task) → ⊥
                between (inl le) = let r = rises a (a + 1) (omega arith) (omega arith) in let s = (of_place (a + 1) (omega arith)).1 in let x = p.2 in absurd (omega arith)
                between (inr le) = let r = rises (a + 1) b far q.0 in let s = (of_place (a + 1) (omega arith)).1 in let x = q.2 in absurd (omega arith)
            side (inl lt) (inr le) =
                let e : a + 1 ≡ b = omega arith in
                let step = subst (λ i. IsPermittedStep n (turn_at turns a).task (turn_at turns a).start (turn_at turns i).task (turn_at turns i).start) e (follow a (let l = q.0 in omega arith)) in
                late (subst (λ t. CanFollow n.instance j t h (minute_of n h)) p.2
                (subst (λ u. CanFollow n.instance j (turn_at turns a).start h u) q.2
                (subst (λ g. CanFollow n.instance j (turn_at turns a).start g (turn_at turns b).start) q.1
                (subst (λ g. CanFollow n.instance g (turn_at turns a).start (turn_at turns b).task (turn_at turns b).start) p.1 step.follow))))
