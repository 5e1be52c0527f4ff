-- the turns of a team on both sides of a minute
use Rattle.std.proofs.Common.{◌≡◌, ◌≤◌, ◌<◌, ◌-◌, ◌⊎◌, inl, inr, ℕ, List, length, get_or, Option, None, Some, arith, sym, ap, ◌∙◌}
use Rattle.std.specs.Prelude.{All, Contains, IfSome, MatchOption}
use Rattle.std.specs.List.Sorted.{IsNonDecreasingBy}
use Rattle.std.proofs.lemmas.Bool.{cases_lt}
use Rattle.std.proofs.lemmas.List.{get_or_default, get_or_past}
use Rattle.std.proofs.lemmas.List.Elements.{Contains-get_or, All-contains}
use Rattle.crew_terms.specs.Instance.{Instance}
use Rattle.crew_terms.specs.Plan.{Plan, job_of, Does}
use Rattle.crew_terms.specs.Legal.{IsFeasible}
use Rattle.crew_terms.specs.Verdict.{IsBefore}
use Rattle.crew_instance.specs.Turns.{AreTurns}
use Rattle.crew_instance.specs.declared.turns.Turn.{Turn}
use Rattle.team_days.specs.Free.{IsLastBefore}
use Rattle.team_days.specs.Obstacles.{IsCountBefore, IsTeamDay, IsNextFrom, IsTurnOf}

abbrev pub turn : ℕ → ℕ → Turn
turn h s = record { start = s; task = h }

abbrev pub no_turn : Turn
no_turn = turn 0 0

-- the turn at a place of the list
abbrev pub at_place : List Turn → ℕ → Turn
at_place vs x = get_or vs x no_turn

-- a task that is done is one of the plan's
pub task_known : (p : Plan) (k h s : ℕ) → Does p k h s → h < length p
task_known p k h s (job, e, f, m) = at (cases_lt h (length p))
  where
    at : (h < length p) ⊎ (length p ≤ h) → h < length p
    at (inl l) = l
    at (inr l) = let n : job_of p h ≡ None = get_or_past p h None l in let x : None ≡ Some job = sym n ∙ e in cc

-- what a team does in a feasible plan are turns of known tasks
pub turns_known : (i : Instance) (p : Plan) (k n : ℕ) (vs : List Turn) → IsFeasible i p → AreTurns p k n vs → All (IsTurnOf i) vs
turns_known i p k n vs feasible are x d l = known (get_or vs x d) (are.done (get_or vs x d) (Contains-get_or vs x d l)).0
  where
    known : (v : Turn) → Does p k v.task v.start → IsTurnOf i v
    known v (job, e, f, m) = record {
      task = let a = task_known p k v.task v.start (job, e, f, m) in let b = feasible.whole in omega arith;
      window = let late = (feasible.jobs v.task job e).window.late in omega arith;
    }

-- and so is one of them, if there is one
pub turn_known : (i : Instance) (k : ℕ) (vs : List Turn) (o : Option Turn) → IsTeamDay i k vs → IfSome o (Contains vs) → IfSome o (IsTurnOf i)
turn_known i k vs None day listed = tt
turn_known i k vs (Some v) (p, feasible, are) listed = All-contains (IsTurnOf i) vs v (turns_known i p k (length p) vs feasible are) listed

no_later : (v w : Turn) → IsBefore v.start v.task w.start w.task → v.start ≤ w.start
no_later v w (inl l) = omega arith
no_later v w (inr e) = let a = e.0 in omega arith

-- the turns of a team begin one after the other
pub starts_rise : (p : Plan) (k n : ℕ) (vs : List Turn) → AreTurns p k n vs → IsNonDecreasingBy (λ (v : Turn). v.start) vs
starts_rise p k n vs are x y d l m = by (cases_lt x y)
  where
    by : (x < y) ⊎ (y ≤ x) → (get_or vs x d).start ≤ (get_or vs y d).start
    by (inl a) = no_later (get_or vs x d) (get_or vs y d) (are.order x y d a m)
    by (inr a) = let e : x ≡ y = omega arith in rw e (omega arith)

module _ (p : Plan) (k : ℕ) (vs : List Turn) (are : AreTurns p k (length p) vs) where
  done : (x : ℕ) → x < length vs → Does p k (at_place vs x).task (at_place vs x).start
  done x l = (are.done (at_place vs x) (Contains-get_or vs x no_turn l)).0

  -- where a task of the team stands
  record Place (h s : ℕ) : Type 0 where
    pub index : ℕ
    pub below : index < length vs
    pub is : at_place vs index ≡ turn h s

  place : (h s : ℕ) → Does p k h s → Place h s
  place h s does =
      let c = are.all h s (task_known p k h s does) does in
      record { index = c.0; below = c.1; is = get_or_default vs c.0 no_turn (turn h s) c.1 ∙ c.2 }

  rise : (x y : ℕ) → x < length vs → y < length vs → x ≤ y → (at_place vs x).start ≤ (at_place vs y).start
  rise x y l m n = starts_rise p k (length p) vs are x y no_turn n m

  module _ (t at : ℕ) (bound : at ≤ length vs) (cut : IsCountBefore vs t at) where
    below : (x : ℕ) → x < at → (at_place vs x).start < t
    below x l = cut.below x no_turn l

    above : (x : ℕ) → at ≤ x → x < length vs → t ≤ (at_place vs x).start
    above x l m = cut.above x no_turn l m

    -- a task stands in front of the place or from it on
    side : (h s : ℕ) (q : Place h s) → ((q.index < at) × (s < t)) ⊎ ((at ≤ q.index) × (t ≤ s))
    side h s q = by (cases_lt q.index at)
      where
        start : (at_place vs q.index).start ≡ s
        start = ap (λ (v : Turn). v.start) q.is

        by : (q.index < at) ⊎ (at ≤ q.index) → ((q.index < at) × (s < t)) ⊎ ((at ≤ q.index) × (t ≤ s))
        by (inl l) = inl (l, let a = below q.index l in let e = start in omega arith)
        by (inr l) = inr (l, let a = above q.index l q.below in let e = start in omega arith)

    last_before : 0 < at → IsLastBefore p k t (at_place vs (at - 1)).task (at_place vs (at - 1)).start
    last_before some = record { does = done (at - 1) (omega arith); before = below (at - 1) (omega arith); last = λ g r d. from g r (place g r d) }
      where
        from : (g r : ℕ) → Place g r → (r ≤ (at_place vs (at - 1)).start) ⊎ (t ≤ r)
        from g r q = by (side g r q)
          where
            by : ((q.index < at) × (r < t)) ⊎ ((at ≤ q.index) × (t ≤ r)) → (r ≤ (at_place vs (at - 1)).start) ⊎ (t ≤ r)
            by (inl l) =
                let m = l.0 in
                let a = rise q.index (at - 1) q.below (omega arith) (omega arith) in
                let e = ap (λ (v : Turn). v.start) q.is in
                inl (omega arith)
            by (inr l) = inr l.1

    pub before_from : (r : Option Turn) → ((0 < at) × (r ≡ Some (at_place vs (at - 1)))) ⊎ ((at ≤ 0) × (r ≡ None))
        → MatchOption r ((h s : ℕ) → Does p k h s → t ≤ s) (λ v. IsLastBefore p k t v.task v.start)
    before_from r (inl (some, e)) = rw e (last_before some)
    before_from r (inr (none, e)) = rw e (λ h s d. from h s (place h s d))
      where
        from : (h s : ℕ) → Place h s → t ≤ s
        from h s q = elim (side h s q) [ inl l ↦ absurd (let m = l.0 in omega arith) | inr l ↦ l.1 ]

    pub next_from : at < length vs → IsNextFrom p k t (at_place vs at)
    next_from some = record { does = done at some; from = above at (omega arith) some; first = λ g r d. from g r (place g r d) }
      where
        from : (g r : ℕ) → Place g r → (r < t) ⊎ ((at_place vs at).start ≤ r)
        from g r q = by (side g r q)
          where
            by : ((q.index < at) × (r < t)) ⊎ ((at ≤ q.index) × (t ≤ r)) → (r < t) ⊎ ((at_place vs at).start ≤ r)
            by (inl l) = inl l.1
            by (inr l) =
                let a = rise at q.index some q.below l.0 in
                let e = ap (λ (v : Turn). v.start) q.is in
                inr (omega arith)

    pub no_next : length vs ≤ at → (h s : ℕ) → Does p k h s → s < t
    no_next none h s d = from (place h s d)
      where
        from : Place h s → s < t
        from q = elim (side h s q) [ inl l ↦ l.1 | inr l ↦ absurd (let m = l.0 in let b = q.below in omega arith) ]
