-- the turns of a team: how they are gathered, and that its next task is the neighbouring one
use Rattle.std.proofs.Common.{◌≡◌, ◌≤◌, ◌<◌, ◌+◌, ◌-◌, ◌⊎◌, inl, inr, ℕ, zero, suc, List, ◌∷◌, length, get_or, arith, refl, sym, subst, ap, ◌∙◌}
use Rattle.std.specs.Prelude.{Contains}
use Rattle.std.specs.List.{All}
use Rattle.std.specs.List.Sorted.{IsPermutation}
use Rattle.std.proofs.lemmas.Bool.{cases_lt, cases_order}
use Rattle.std.proofs.lemmas.List.{get_or_default}
use Rattle.std.proofs.lemmas.List.Elements.{Contains-get_or}
use Rattle.std.proofs.lemmas.List.Sorted.{Contains-permutation, IsPermutation-sym, length_permutation}
use Rattle.crew_terms.specs.Instance.{Instance, CanFollow}
use Rattle.crew_terms.specs.Plan.{Plan, Does}
use Rattle.crew_terms.specs.Verdict.{IsBefore, IsNext, HasNoClash, IsFirstClash}
use Rattle.crew_terms.specs.Nodes.{task_known}
use Rattle.crew_instance.specs.declared.turns.Turn.{Turn}
use Rattle.crew_instance.specs.Turns.{IsInOrder, AreTurns}
use Rattle.crew_instance.proofs.Decides.{one_start}
use Rattle.crew_instance.proofs.Order.{Precedes}

abbrev pub turn : ℕ → ℕ → Turn
turn j t = record { start = t; task = j }

abbrev pub no_turn : Turn
no_turn = turn 0 0

-- the turn at one place can follow that at another
abbrev pub Follows : Instance → List Turn → ℕ → ℕ → Type 0
Follows i vs a b = CanFollow i (get_or vs a no_turn).task (get_or vs a no_turn).start (get_or vs b no_turn).task (get_or vs b no_turn).start

-- one more pair of neighbours
pub follows_more : (i : Instance) (vs : List Turn) (m : ℕ) → 1 ≤ m → ((a : ℕ) → a + 1 < m → Follows i vs a (a + 1)) → Follows i vs (m - 1) m
    → (a : ℕ) → a + 1 < m + 1 → Follows i vs a (a + 1)
follows_more i vs m some before here a l = at (cases_lt (a + 1) m)
  where
    at : (a + 1 < m) ⊎ (m ≤ a + 1) → Follows i vs a (a + 1)
    at (inl h) = before a h
    at (inr h) = let e : m - 1 ≡ a = omega arith in let f : m ≡ a + 1 = omega arith in subst (λ b. Follows i vs b (a + 1)) e (subst (λ b. Follows i vs (m - 1) b) f here)

-- whatever stands in a list with one more in front
in_front : (v w : Turn) (vs : List Turn) → Contains (v ∷ vs) w → (v ≡ w) ⊎ Contains vs w
in_front v w vs (zero, l, e) = inl e
in_front v w vs (suc k, l, e) = inr (k, omega arith, e)

first_in : (v : Turn) (vs : List Turn) → Contains (v ∷ vs) v
first_in v vs = (0, omega arith, refl)

rest_in : (v w : Turn) (vs : List Turn) → Contains vs w → Contains (v ∷ vs) w
rest_in v w vs (k, l, e) = (suc k, omega arith, e)

module _ (p : Plan) (k : ℕ) where
  module _ (n : ℕ) (vs : List Turn) (are : AreTurns p k n vs) where
    pub tasks_below : (j : ℕ) → j ≡ n → All (λ (v : Turn). v.task < j) vs
    tasks_below j e i d l = let m = (are.done (get_or vs i d) (Contains-get_or vs i d l)).1 in omega arith

    pub turns_skip : ((t : ℕ) → Does p k n t → ⊥) → AreTurns p k (n + 1) vs
    turns_skip none = record {
      few = let a = are.few in omega arith;
      order = are.order;
      done = λ v c. let d = are.done v c in let l = d.1 in (d.0, omega arith);
      all = λ j t l d. here j t l d (cases_lt j n);
    }
      where
        here : (j t : ℕ) → j < n + 1 → Does p k j t → (j < n) ⊎ (n ≤ j) → Contains vs (turn j t)
        here j t l d (inl m) = are.all j t m d
        here j t l d (inr m) = let e : j ≡ n = omega arith in absurd (none t (subst (λ h. Does p k h t) e d))

    module _ (v : Turn) (ws : List Turn) (is : v.task ≡ n) (does : Does p k v.task v.start) (order : IsInOrder ws) (moved : IsPermutation (v ∷ vs) ws) where
      back : (w : Turn) → Contains ws w → Contains (v ∷ vs) w
      back w c = Contains-permutation ws (v ∷ vs) w (IsPermutation-sym (v ∷ vs) ws moved) c

      done : (w : Turn) → (v ≡ w) ⊎ Contains vs w → Does p k w.task w.start × (w.task < n + 1)
      done w (inl e) = subst (λ (x : Turn). Does p k x.task x.start × (x.task < n + 1)) e (does, omega arith)
      done w (inr c) = let d = are.done w c in let l = d.1 in (d.0, omega arith)

      all : (j t : ℕ) → j < n + 1 → Does p k j t → (j < n) ⊎ (n ≤ j) → Contains (v ∷ vs) (turn j t)
      all j t l d (inl m) = rest_in v (turn j t) vs (are.all j t m d)
      all j t l d (inr m) =
          let e : v.task ≡ j = omega arith in
          let f : v.start ≡ t = one_start p k k j v.start t (subst (λ h. Does p k h v.start) e does) d in
          subst (Contains (v ∷ vs)) (ap (λ h. turn h v.start) e ∙ ap (turn j) f) (first_in v vs)

      pub turns_put : AreTurns p k (n + 1) ws
      turns_put = record {
        few = let a = length_permutation (v ∷ vs) ws moved in let b = are.few in omega arith;
        order = order;
        done = λ w c. done w (in_front v w vs (back w c));
        all = λ j t l d. Contains-permutation (v ∷ vs) ws (turn j t) moved (all j t l d (cases_lt j n));
      }

-- no two come before each other
both : (t j u h : ℕ) → IsBefore t j u h → IsBefore u h t j → ⊥
both t j u h (inl a) (inl b) = omega arith
both t j u h (inl a) (inr b) = let c = b.0 in omega arith
both t j u h (inr a) (inl b) = let c = a.0 in omega arith
both t j u h (inr a) (inr b) = let c = a.1 in let d = b.1 in omega arith

-- the turn at a place is one of the team
pub turn_done : (p : Plan) (k n : ℕ) (vs : List Turn) → AreTurns p k n vs → (a : ℕ) → a < length vs → Does p k (get_or vs a no_turn).task (get_or vs a no_turn).start
turn_done p k n vs are a l = (are.done (get_or vs a no_turn) (Contains-get_or vs a no_turn l)).0

module _ (p : Plan) (k : ℕ) (vs : List Turn) (are : AreTurns p k (length p) vs) where
  -- where a task of the team stands
  record Place (j t : ℕ) : Type 0 where
    pub index : ℕ
    pub below : index < length vs
    pub is : get_or vs index no_turn ≡ turn j t

  place : (j t : ℕ) → Does p k j t → Place j t
  place j t does =
      let c = are.all j t (task_known p k j t does) does in
      record { index = c.0; below = c.1; is = get_or_default vs c.0 no_turn (turn j t) c.1 ∙ c.2 }

  -- what comes later stands further
  later : (j t h u a b : ℕ) → a < length vs → b < length vs → get_or vs a no_turn ≡ turn j t → get_or vs b no_turn ≡ turn h u → IsBefore t j u h → a < b
  later j t h u a b l m e f before = pick (cases_order a b)
    where
      back : b < a → ⊥
      back n = both t j u h before (subst (λ (x : Turn). IsBefore u h x.start x.task) e (subst (λ (x : Turn). Precedes x (get_or vs a no_turn)) f (are.order b a no_turn n l)))

      same : turn j t ≡ turn h u → IsBefore t j u h → ⊥
      same g (inl n) = let s = ap (λ (x : Turn). x.start) g in omega arith
      same g (inr n) = let s = ap (λ (x : Turn). x.task) g in let q = n.1 in omega arith

      pick : (a ≡ b) ⊎ ((a < b) ⊎ (b < a)) → a < b
      pick (inl n) = absurd (same (sym e ∙ ap (λ i. get_or vs i no_turn) n ∙ f) before)
      pick (inr (inl n)) = n
      pick (inr (inr n)) = absurd (back n)

  -- neighbours are next to each other
  pub neighbours_next : (a : ℕ) → a + 1 < length vs
      → IsNext p k (get_or vs a no_turn).task (get_or vs a no_turn).start (get_or vs (a + 1) no_turn).task (get_or vs (a + 1) no_turn).start
  neighbours_next a l = record {
    first = (are.done (get_or vs a no_turn) (Contains-get_or vs a no_turn (omega arith))).0;
    second = (are.done (get_or vs (a + 1) no_turn) (Contains-get_or vs (a + 1) no_turn l)).0;
    order = are.order a (a + 1) no_turn (omega arith) l;
    none_between = none;
  }
    where
      none : (g s : ℕ) → Does p k g s → IsBefore (get_or vs a no_turn).start (get_or vs a no_turn).task s g → IsBefore s g (get_or vs (a + 1) no_turn).start (get_or vs (a + 1) no_turn).task → ⊥
      none g s c m n =
          let q : Place g s = place g s c in
          let x = later (get_or vs a no_turn).task (get_or vs a no_turn).start g s a q.index (omega arith) q.below refl q.is m in
          let y = later g s (get_or vs (a + 1) no_turn).task (get_or vs (a + 1) no_turn).start q.index (a + 1) q.below l q.is refl n in
          omega arith

  -- and the next task of the team is the neighbour
  pub record Neighbours (j t h u : ℕ) : Type 0 where
    pub index : ℕ
    pub below : index + 1 < length vs
    pub first : get_or vs index no_turn ≡ turn j t
    pub second : get_or vs (index + 1) no_turn ≡ turn h u

  pub next_neighbours : (j t h u : ℕ) → IsNext p k j t h u → Neighbours j t h u
  next_neighbours j t h u next = from (place j t next.first) (place h u next.second)
    where
      from : Place j t → Place h u → Neighbours j t h u
      from a b = close (cases_lt (a.index + 1) b.index)
        where
          apart : a.index < b.index
          apart = later j t h u a.index b.index a.below b.below a.is b.is next.order

          between : Turn
          between = get_or vs (a.index + 1) no_turn

          close : (a.index + 1 < b.index) ⊎ (b.index ≤ a.index + 1) → Neighbours j t h u
          close (inl l) =
              let m : a.index + 1 < length vs = let n = b.below in omega arith in
              let after : IsBefore t j between.start between.task = subst (λ (x : Turn). IsBefore x.start x.task between.start between.task) a.is (are.order a.index (a.index + 1) no_turn (omega arith) m) in
              let ahead : IsBefore between.start between.task u h = subst (λ (x : Turn). IsBefore between.start between.task x.start x.task) b.is (are.order (a.index + 1) b.index no_turn l b.below) in
              absurd (next.none_between between.task between.start (are.done between (Contains-get_or vs (a.index + 1) no_turn m)).0 after ahead)
          close (inr l) =
              let e : b.index ≡ a.index + 1 = let n = apart in omega arith in
              record { index = a.index; below = let n = b.below in omega arith; first = a.is; second = subst (λ i. get_or vs i no_turn ≡ turn h u) e b.is }

  module _ (i : Instance) where
    -- a pair of neighbours that can follow, as two tasks
    as_tasks : (j t h u : ℕ) (n : Neighbours j t h u) → Follows i vs n.index (n.index + 1) → CanFollow i j t h u
    as_tasks j t h u n f =
        let after : Turn = get_or vs (n.index + 1) no_turn in
        subst (λ (x : Turn). CanFollow i j t x.task x.start) n.second (subst (λ (x : Turn). CanFollow i x.task x.start after.task after.start) n.first f)

    -- a team of which each task can follow its neighbour has no clash
    pub no_clash_from : ((a : ℕ) → a + 1 < length vs → Follows i vs a (a + 1)) → HasNoClash i p k
    no_clash_from good j t h u next = let n = next_neighbours j t h u next in as_tasks j t h u n (good n.index n.below)

    -- the first task that can't follow its neighbour is the first clash
    pub first_clash_from : (a : ℕ) → a + 1 < length vs → ((b : ℕ) → b < a → Follows i vs b (b + 1)) → (Follows i vs a (a + 1) → ⊥)
        → IsFirstClash i p k (get_or vs a no_turn).task (get_or vs (a + 1) no_turn).task
    first_clash_from a l good broken = record {
      start = (get_or vs a no_turn).start;
      next_start = (get_or vs (a + 1) no_turn).start;
      next = neighbours_next a l;
      broken = broken;
      earlier = λ g s f r next before. at g s f r (next_neighbours g s f r next) before;
    }
      where
        at : (g s f r : ℕ) → Neighbours g s f r → IsBefore s g (get_or vs a no_turn).start (get_or vs a no_turn).task → CanFollow i g s f r
        at g s f r n before =
            as_tasks g s f r n (good n.index (later g s (get_or vs a no_turn).task (get_or vs a no_turn).start n.index a (let q = n.below in omega arith) (omega arith) n.first refl before))

-- one more team
pub calm_more : (i : Instance) (p : Plan) (k : ℕ) → ((g : ℕ) → g < k → HasNoClash i p g) → HasNoClash i p k → (g : ℕ) → g < k + 1 → HasNoClash i p g
calm_more i p k before here g l = at (cases_lt g k)
  where
    at : (g < k) ⊎ (k ≤ g) → HasNoClash i p g
    at (inl m) = before g m
    at (inr m) = let e : k ≡ g = omega arith in subst (HasNoClash i p) e here
