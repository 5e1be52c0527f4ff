-- a team's last task so far is the one before the next in the plan
use Rattle.std.proofs.Common.{◌≡◌, ◌≢◌, ◌<◌, ◌≤◌, ◌⊎◌, inl, inr, ℕ, List, Option, Some, None, length, arith, refl, sym, ap, subst, ◌∙◌}
use Rattle.std.specs.Option.{option_map}
use Rattle.std.proofs.lemmas.Bool.{cases_lt, cases_order}
use Rattle.crew_terms.specs.Instance.{Instance}
use Rattle.crew_terms.specs.Plan.{Plan, Job, job_of, Does}
use Rattle.crew_terms.specs.Legal.{IsFeasible}
use Rattle.crew_terms.specs.Verdict.{IsBefore, IsNext}
use Rattle.crew_instance.specs.declared.turns.Turn.{Turn}
use Rattle.delay_wave.specs.Order.{AreInOrder, planned_start, turn_at}
use Rattle.delay_wave.proofs.Turns.{turn}

-- a task is done once
pub one_start : (p : Plan) (k h j t u : ℕ) → Does p k j t → Does p h j u → t ≡ u
one_start p k h j t u (a, e, s, m) (b, f, r, n) = let x : Some a ≡ Some b = sym e ∙ f in let y : a ≡ b = cc in sym s ∙ ap (λ (j : Job). j.start) y ∙ r

pub planned_of : (p : Plan) (k j t : ℕ) → Does p k j t → planned_start p j ≡ Some t
planned_of p k j t (job, e, s, m) = ap (option_map (λ (job : Job). job.start)) e ∙ ap Some s

module _ (i : Instance) (p : Plan) (feasible : IsFeasible i p) where
  -- two tasks of a team are begun one after the other
  pub sooner : (k j t h u : ℕ) → Does p k j t → Does p k h u → j ≢ h → (t < u) ⊎ (u < t)
  sooner k j t h u d e ne = elim (cases_order t u) [
    | inl same ↦ absurd (feasible.apart k j h t u d e ne same)
    | inr other ↦ other
  ]

  pub next_is_later : (k j t h u : ℕ) → IsNext p k j t h u → t < u
  next_is_later k j t h u next = at next.order
    where
      at : IsBefore t j u h → t < u
      at (inl l) = l
      at (inr (e, l)) = let ne : j ≢ h = λ same. omega arith in absurd (feasible.apart k j h t u next.first next.second ne e)

  module _ (turns : List Turn) (ord : AreInOrder p turns) where
    record Place (j t : ℕ) : Type 0 where
      pub index : ℕ
      pub below : index < length turns
      pub is : turn_at turns index ≡ turn j t

    place : (k j t : ℕ) → Does p k j t → Place j t
    place k j t d = let a = ord.all j t (planned_of p k j t d) in record { index = a.0; below = a.1; is = a.2 }

    -- the first n turns, of which the one at place a is the last of team k, and the next turn
    module _ (k n a : ℕ) (inside : n < length turns) (below : a < n) (j t h u : ℕ) (here : turn_at turns a ≡ turn j t) (there : turn_at turns n ≡ turn h u)
        (before : Does p k j t) (after : Does p k h u)
        (latest : (b : ℕ) → a < b → b < n → (s : ℕ) → Does p k (turn_at turns b).task s → ⊥) where
      differ : j ≢ h
      differ same =
          ord.apart a n below inside (ap (λ (v : Turn). v.task) here ∙ same ∙ sym (ap (λ (v : Turn). v.task) there))

      not_after : t ≤ u
      not_after =
          let r = ord.rising a n (omega arith) inside in
          let x = ap (λ (v : Turn). v.start) here in let y = ap (λ (v : Turn). v.start) there in omega arith

      pub is_later : t < u
      is_later = elim (sooner k j t h u before after differ) [ inl l ↦ l | inr l ↦ (let m = not_after in absurd (omega arith)) ]

      -- no task of the team is begun between
      between : (g s : ℕ) → Does p k g s → t < s → s < u → ⊥
      between g s d l m = at (cases_lt a c.index) (cases_lt c.index n)
        where
          c : Place g s
          c = place k g s d

          start : (turn_at turns c.index).start ≡ s
          start = ap (λ (v : Turn). v.start) c.is

          at : (a < c.index) ⊎ (c.index ≤ a) → (c.index < n) ⊎ (n ≤ c.index) → ⊥
          at (inl x) (inl y) = latest c.index x y s (subst (λ (v : Turn). Does p k v.task s) (sym c.is) d)
          at (inr x) y =
              let r = ord.rising c.index a x (omega arith) in let e = start in
              let f = ap (λ (v : Turn). v.start) here in absurd (omega arith)
          at x (inr y) =
              let r = ord.rising n c.index y c.below in let e = start in
              let f = ap (λ (v : Turn). v.start) there in absurd (omega arith)

      none_between : (g s : ℕ) → Does p k g s → IsBefore t j s g → IsBefore s g u h → ⊥
      none_between g s d (inl l) (inl m) = between g s d l m
      none_between g s d (inr (e, l)) m = let ne : j ≢ g = λ same. omega arith in feasible.apart k j g t s before d ne e
      none_between g s d l (inr (e, m)) = let ne : g ≢ h = λ same. omega arith in feasible.apart k g h s u d after ne e

      pub is_next : IsNext p k j t h u
      is_next = record { first = before; second = after; order = inl is_later; none_between = none_between }

    -- what is before the next turn in the plan is the team's last of the first n turns
    module _ (k n a : ℕ) (inside : n < length turns) (below : a < n) (j t h u : ℕ) (here : turn_at turns a ≡ turn j t) (there : turn_at turns n ≡ turn h u)
        (before : Does p k j t) (latest : (b : ℕ) → a < b → b < n → (s : ℕ) → Does p k (turn_at turns b).task s → ⊥)
        (g s : ℕ) (next : IsNext p k g s h u) where
      c : Place g s
      c = place k g s next.first

      start : (turn_at turns c.index).start ≡ s
      start = ap (λ (v : Turn). v.start) c.is

      sooner_than_next : c.index < n
      sooner_than_next = elim (cases_lt c.index n) [
        | inl l ↦ l
        | inr m ↦ (
            let r = ord.rising n c.index m c.below in let e = start in let l = next_is_later k g s h u next in
            let f = ap (λ (v : Turn). v.start) there in absurd (omega arith))
      ]

      same : c.index ≡ a → j ≡ g
      same e = let x : turn g s ≡ turn j t = sym c.is ∙ ap (turn_at turns) e ∙ here in sym (ap (λ (v : Turn). v.task) x)

      -- a later last task would be between
      later : c.index < a → j ≡ g
      later l = absurd (at (sooner k g s j t next.first before apart) (sooner k j t h u before next.second differ))
        where
          apart : g ≢ j
          apart e = ord.apart c.index a l (omega arith) (ap (λ (v : Turn). v.task) c.is ∙ e ∙ sym (ap (λ (v : Turn). v.task) here))

          differ : j ≢ h
          differ e = ord.apart a n below inside (ap (λ (v : Turn). v.task) here ∙ e ∙ sym (ap (λ (v : Turn). v.task) there))

          rises : s ≤ t
          rises =
              let r = ord.rising c.index a (omega arith) (omega arith) in let e = start in
              let f = ap (λ (v : Turn). v.start) here in omega arith

          falls : t ≤ u
          falls =
              let r = ord.rising a n (omega arith) inside in
              let e = ap (λ (v : Turn). v.start) here in let f = ap (λ (v : Turn). v.start) there in omega arith

          at : (s < t) ⊎ (t < s) → (t < u) ⊎ (u < t) → ⊥
          at (inl x) (inl y) = next.none_between j t before (inl x) (inl y)
          at (inr x) y = let r = rises in absurd (omega arith)
          at x (inr y) = let r = falls in absurd (omega arith)

      pub is_last : j ≡ g
      is_last = at (cases_order c.index a)
        where
          at : (c.index ≡ a) ⊎ ((c.index < a) ⊎ (a < c.index)) → j ≡ g
          at (inl e) = same e
          at (inr (inl l)) = later l
          at (inr (inr l)) = absurd (latest c.index l sooner_than_next s (subst (λ (v : Turn). Does p k v.task s) (sym c.is) next.first))

    -- a team with a task before the next turn has done one of the first n turns
    module _ (k n : ℕ) (h u g s : ℕ) (there : turn_at turns n ≡ turn h u) (next : IsNext p k g s h u)
        (none : (a t : ℕ) → a < n → Does p k (turn_at turns a).task t → ⊥) where
      pub not_idle : ⊥
      not_idle = at (cases_lt c.index n)
        where
          c : Place g s
          c = place k g s next.first

          at : (c.index < n) ⊎ (n ≤ c.index) → ⊥
          at (inl l) = none c.index s l (subst (λ (v : Turn). Does p k v.task s) (sym c.is) next.first)
          at (inr m) =
              let r = ord.rising n c.index m c.below in let e = ap (λ (v : Turn). v.start) c.is in let l = next_is_later k g s h u next in
              let f = ap (λ (v : Turn). v.start) there in absurd (omega arith)
