-- the obstacle of a team, as it is found, is the one that is defined
use Rattle.std.proofs.Common.{◌≡◌, ◌≤◌, ◌<◌, ◌+◌, ◌&&◌, ◌⊎◌, inl, inr, ◌∷◌, [], ℕ, zero, suc, Bool, true, false, List, length, Option, None, Some, arith, refl, sym, subst, ap, ◌∙◌}
use Rattle.std.specs.Prelude.{◌↔◌, Contains, MatchOption, bit_and, find, nat_eq, nat_le, option_map, unwrap_or, if◌then◌else◌}
use Rattle.std.specs.Bool.{Decides}
use Rattle.std.specs.List.{list_any, range_with_len}
use Rattle.std.specs.Option.{option_map_or, option_or}
use Rattle.std.proofs.lemmas.Nat.{and_comm}
use Rattle.std.proofs.lemmas.Bool.{cases_lt, leb-true, le-leb}
use Rattle.std.proofs.lemmas.Bool.Decides.{Decides-and, Decides-eqb, Decides-like, Decides-by_or}
use Rattle.std.proofs.lemmas.List.Elements.{Decides-contains}
use Rattle.std.proofs.lemmas.List.FromFn.{length-range_with_len, get_or-range_with_len}
use Rattle.crew_terms.specs.Instance.{Instance, CanFollow, IsQualified, IsInShift, task_of, team_of, minutes_between}
use Rattle.crew_terms.specs.Plan.{Plan, Job, Does, job_of}
use Rattle.crew_terms.specs.Legal.{IsFit, IsFeasible}
use Rattle.crew_terms.specs.Skills.{bits_had, has_bits}
use Rattle.crew_instance.specs.declared.turns.Turn.{Turn}
use Rattle.team_days.specs.declared.obstacles.Obstacle.{Obstacle}
use Rattle.team_days.specs.declared.obstacles.Obstacle.TheVariants.{Free, Skill, Shift, Busy}
use Rattle.team_days.specs.Free.{IsLastBefore, IsFirstAfter, IsFreeFor}
use Rattle.team_days.specs.Obstacles.{IsNextFrom, begins_at, can_follow, first_after, first_in, is_in_shift, is_qualified, last_before, last_start, late_from, late_to, obstacle_of, task_in_way, turn_at}
use Rattle.team_days.proofs.Day.{task_known}
use Rattle.team_days.proofs.Told.{IsBeforeIt, IsObstacle, LacksSkill, IsOffShift, BeginsThen, ComesLate, GoesOnLate, HasNone, comes_from, one_task, one_last, one_first}

by_test : {P : Type 0} (b : Bool) → (b ≡ true → P) → (b ≡ false → P) → P
by_test true at_true at_false = at_true refl
by_test false at_true at_false = at_false refl

-- ---- tests

le_decides : (a b : ℕ) → Decides (nat_le a b) (a ≤ b)
le_decides a b = (leb-true a b, le-leb a b)

among_decides : (k : ℕ) (ks : List ℕ) → Decides (list_any (nat_eq k) ks) (Contains ks k)
among_decides k ks =
    Decides-contains ks k (list_any (nat_eq k) ks)
    (Decides-by_or (nat_eq k) (λ h. h ≡ k) (list_any (nat_eq k)) (λ h. Decides-like (nat_eq k h) sym sym (Decides-eqb k h)) refl (λ _ _. refl) ks)

qualified_decides : (i : Instance) (k j : ℕ) → Decides (is_qualified i k j) (IsQualified i k j)
qualified_decides i k j =
    Decides-like (is_qualified i k j)
    (λ e. has_bits (team_of i k).skills (task_of i j).skills (and_comm (team_of i k).skills (task_of i j).skills ∙ e))
    (λ q. and_comm (task_of i j).skills (team_of i k).skills ∙ bits_had (team_of i k).skills (task_of i j).skills q)
    (Decides-eqb (bit_and (task_of i j).skills (team_of i k).skills) (task_of i j).skills)

shift_decides : (i : Instance) (k j t : ℕ) → Decides (is_in_shift i k j t) (IsInShift i k j t)
shift_decides i k j t =
    Decides-like (is_in_shift i k j t) (λ h. record { comes = h.0; returns = h.1 }) (λ s. (s.comes, s.returns))
    (Decides-and _ _
    (le_decides ((team_of i k).from + minutes_between i (team_of i k).home (task_of i j).place) t)
    (le_decides (t + (task_of i j).minutes + minutes_between i (task_of i j).place (team_of i k).home) (team_of i k).until))

follow_decides : (i : Instance) (j t h u : ℕ) → Decides (can_follow i j t h u) (CanFollow i j t h u)
follow_decides i j t h u = le_decides (t + (task_of i j).minutes + minutes_between i (task_of i j).place (task_of i h).place) u

fails : {P : Type 0} (b : Bool) → Decides b P → (P → ⊥) → b ≡ false
fails true d none = absurd (none (d.0 refl))
fails false d none = refl

module _ (p : Plan) (k : ℕ) where
  begins_decides : (t h : ℕ) → Decides (begins_at p k t h) (Does p k h t)
  begins_decides t h = of (job_of p h) refl
    where
      of : (o : Option Job) → job_of p h ≡ o → Decides (option_map_or (λ job. nat_eq job.start t && list_any (nat_eq k) job.teams) o false) (Does p k h t)
      of None is = ((λ e. cc), (λ d. let x : None ≡ Some d.0 = sym is ∙ d.1 in cc))
      of (Some job) is =
          Decides-like (nat_eq job.start t && list_any (nat_eq k) job.teams) (λ a. (job, is, a.0, a.1))
          (λ d.
          let same : job ≡ d.0 = ap (λ o. unwrap_or o job) (sym is ∙ d.1) in
          (ap (λ (w : Job). w.start) same ∙ d.2, subst (λ (w : Job). Contains w.teams k) (sym same) d.3))
          (Decides-and _ _ (Decides-eqb job.start t) (among_decides k job.teams))

  -- ---- what the team begins

  -- the turn at the minute, or nothing where there is none
  abbrev pub IsTurnAt : ℕ → Option Turn → Type 0
  IsTurnAt t o = MatchOption o ((h : ℕ) → Does p k h t → ⊥) (λ v. (v.start ≡ t) × Does p k v.task v.start)

  turn : ℕ → Option ℕ → Option Turn
  turn t o = option_map (λ h. record { start = t; task = h }) o

  found_in : (t : ℕ) (hs : List ℕ) → MatchOption (find (begins_at p k t) hs) ((h : ℕ) → Contains hs h → Does p k h t → ⊥) (λ h. Does p k h t)
  found_in t [] = λ h c d. let l = c.1 in omega arith
  found_in t (g ∷ hs) =
      by_test (begins_at p k t g)
      (λ e. rw e ((begins_decides t g).0 e))
      (λ e. rw e (later (find (begins_at p k t) hs) (found_in t hs) e))
    where
      other : (h : ℕ) → Contains (g ∷ hs) h → (g ≡ h) ⊎ Contains hs h
      other h (zero, l, is) = inl is
      other h (suc n, l, is) = inr (n, omega arith, is)

      later : (o : Option ℕ) → MatchOption o ((h : ℕ) → Contains hs h → Does p k h t → ⊥) (λ h. Does p k h t) → begins_at p k t g ≡ false
          → MatchOption o ((h : ℕ) → Contains (g ∷ hs) h → Does p k h t → ⊥) (λ h. Does p k h t)
      later None none e = λ h c d. elim (other h c) [
        | inl same ↦ let x : true ≡ false = sym ((begins_decides t g).1 (subst (λ y. Does p k y t) (sym same) d)) ∙ e in cc
        | inr m ↦ none h m d
      ]
      later (Some h) does e = does

  pub turn_is : (t : ℕ) → IsTurnAt t (turn_at p k t)
  unfolding turn_at
  turn_is t = from (find (begins_at p k t) (range_with_len 0 (length p))) (found_in t (range_with_len 0 (length p)))
    where
      listed : (h : ℕ) → h < length p → Contains (range_with_len 0 (length p)) h
      listed h l =
          let e : 0 + h ≡ h = omega arith in
          (h, subst (λ n. h < n) (sym (length-range_with_len 0 (length p))) l, get_or-range_with_len 0 (length p) h h l ∙ e)

      from : (o : Option ℕ) → MatchOption o ((h : ℕ) → Contains (range_with_len 0 (length p)) h → Does p k h t → ⊥) (λ h. Does p k h t)
          → IsTurnAt t (option_map (λ h. record { start = t; task = h }) o)
      from None none = λ h d. none h (listed h (task_known p k h t d)) d
      from (Some h) does = (refl, does)

  -- the last before a minute
  pub last_is : (t : ℕ) → IsBeforeIt p k t (last_before p k t)
  unfolding last_before
  last_is zero = λ h s d. omega arith
  last_is (suc t) = step (turn_at p k t) (turn_is t) (last_before p k t) (last_is t)
    where
      order : (g r : ℕ) → ((h : ℕ) → Does p k h t → ⊥) → Does p k g r → t ≤ r → suc t ≤ r
      order g r none d l = elim (cases_lt t r) [ inl m ↦ omega arith | inr m ↦ absurd (none g (let e : r ≡ t = omega arith in subst (λ x. Does p k g x) e d)) ]

      step : (a : Option Turn) → IsTurnAt t a → (b : Option Turn) → IsBeforeIt p k t b → IsBeforeIt p k (suc t) (option_or a b)
      step None none None rest = λ h s d. order h s none d (rest h s d)
      step None none (Some v) last = record { does = last.does; before = let l = last.before in omega arith; last = λ g r d. by g r d (last.last g r d) }
        where
          by : (g r : ℕ) → Does p k g r → (r ≤ v.start) ⊎ (t ≤ r) → (r ≤ v.start) ⊎ (suc t ≤ r)
          by g r d (inl l) = inl l
          by g r d (inr l) = inr (order g r none d l)
      step (Some v) at b rest = record { does = at.1; before = let e = at.0 in omega arith; last = λ g r d. by r (cases_lt t r) }
        where
          by : (r : ℕ) → (t < r) ⊎ (r ≤ t) → (r ≤ v.start) ⊎ (suc t ≤ r)
          by r (inl l) = inr (omega arith)
          by r (inr l) = inl (let e = at.0 in omega arith)

  -- the first in so many minutes
  pub first_is : (n t : ℕ) → MatchOption (first_in p k n t) ((h s : ℕ) → Does p k h s → (s < t) ⊎ (t + n ≤ s)) (IsNextFrom p k t)
  unfolding first_in
  first_is zero t = λ h s d. elim (cases_lt s t) [ inl l ↦ inl l | inr l ↦ inr (omega arith) ]
  first_is (suc n) t = step (turn_at p k t) (turn_is t) (first_in p k n (suc t)) (first_is n (suc t))
    where
      order : (g r : ℕ) → ((h : ℕ) → Does p k h t → ⊥) → Does p k g r → r < suc t → r < t
      order g r none d l = elim (cases_lt r t) [ inl m ↦ m | inr m ↦ absurd (none g (let e : r ≡ t = omega arith in subst (λ x. Does p k g x) e d)) ]

      step : (a : Option Turn) → IsTurnAt t a → (b : Option Turn) → MatchOption b ((h s : ℕ) → Does p k h s → (s < suc t) ⊎ (suc t + n ≤ s)) (IsNextFrom p k (suc t))
          → MatchOption (option_or a b) ((h s : ℕ) → Does p k h s → (s < t) ⊎ (t + suc n ≤ s)) (IsNextFrom p k t)
      step None none None rest = λ h s d. elim (rest h s d) [ inl l ↦ inl (order h s none d l) | inr l ↦ inr (omega arith) ]
      step None none (Some v) next = record { does = next.does; from = let l = next.from in omega arith; first = λ g r d. by g r d (next.first g r d) }
        where
          by : (g r : ℕ) → Does p k g r → (r < suc t) ⊎ (v.start ≤ r) → (r < t) ⊎ (v.start ≤ r)
          by g r d (inl l) = inl (order g r none d l)
          by g r d (inr l) = inr l
      step (Some v) at b rest = record { does = at.1; from = let e = at.0 in omega arith; first = λ g r d. by r (cases_lt r t) }
        where
          by : (r : ℕ) → (r < t) ⊎ (t ≤ r) → (r < t) ⊎ (v.start ≤ r)
          by r (inl l) = inl l
          by r (inr l) = inr (let e = at.0 in omega arith)

-- no job is begun after the last minute at which one is
starts_by : (p : Plan) (h : ℕ) (job : Job) → job_of p h ≡ Some job → job.start ≤ last_start p
unfolding last_start
starts_by [] h job e = cc
starts_by (None ∷ p) zero job e = cc
starts_by (None ∷ p) (suc h) job e = starts_by p h job e
starts_by (Some other ∷ p) zero job e = let same : other ≡ job = ap (λ o. unwrap_or o other) e in let s = ap (λ (w : Job). w.start) same in omega arith
starts_by (Some other ∷ p) (suc h) job e = let l = starts_by p h job e in omega arith

-- ---- the obstacle

-- by the tests
abbrev picked : Bool → Bool → Option ℕ → Obstacle
picked q s o = if q then (if s then option_map_or Busy o Free else Shift) else Skill

picked_is : (q s : Bool) (o w : Option ℕ) → q ≡ true → s ≡ true → o ≡ w → option_map_or Busy w Free ≡ picked q s o
picked_is q s o w e f g = rw (e, f, g) refl

abbrev task : Option Turn → Option ℕ
task o = option_map (λ (v : Turn). v.task) o

way_is : (a b c : Option ℕ) (h : ℕ) → (a ≡ Some h) ⊎ ((a ≡ None) × ((b ≡ Some h) ⊎ ((b ≡ None) × (c ≡ Some h)))) → option_or a (option_or b c) ≡ Some h
way_is a b c h (inl e) = rw e refl
way_is a b c h (inr (e, inl f)) = rw (e, f) refl
way_is a b c h (inr (e, inr (f, g))) = rw (e, f, g) refl

no_way : (a b c : Option ℕ) → a ≡ None → b ≡ None → c ≡ None → option_or a (option_or b c) ≡ None
no_way a b c e f g = rw (e, f, g) refl

record NoWay (a b c : Option ℕ) : Type 0 where
  pub first : a ≡ None
  pub second : b ≡ None
  pub third : c ≡ None

none_of : (a b c : Option ℕ) → option_or a (option_or b c) ≡ None → NoWay a b c
none_of None None None e = record { first = refl; second = refl; third = refl }
none_of None None (Some h) e = cc
none_of None (Some h) c e = cc
none_of (Some h) b c e = cc

module _ (i : Instance) (p : Plan) (k j t : ℕ) (feasible : IsFeasible i p) where
  -- the turn at the minute
  begun : (o : Option Turn) (h : ℕ) → IsTurnAt p k t o → Does p k h t → task o ≡ Some h
  begun None h none does = absurd (none h does)
  begun (Some v) h at does = ap Some (one_task i p k j t feasible v.task h t (subst (λ s. Does p k v.task s) at.0 at.1) does)

  none_begun : (o : Option Turn) → IsTurnAt p k t o → ((h : ℕ) → Does p k h t → ⊥) → task o ≡ None
  none_begun None none idle = refl
  none_begun (Some v) at idle = absurd (idle v.task (subst (λ s. Does p k v.task s) at.0 at.1))

  idle_of : (o : Option Turn) → IsTurnAt p k t o → task o ≡ None → (h : ℕ) → Does p k h t → ⊥
  idle_of None none e = none
  idle_of (Some v) at e = cc

  -- the last one before
  late : (o : Option Turn) (h s : ℕ) → IsBeforeIt p k t o → IsLastBefore p k t h s → (CanFollow i h s j t → ⊥) → late_from i o j t ≡ Some h
  late None h s none last broken = absurd (let l = none h s last.does in let m = last.before in omega arith)
  late (Some v) h s is last broken =
      let one = one_last i p k j t feasible v.task v.start h s is last in
      let f : can_follow i v.task v.start j t ≡ false = fails (can_follow i v.task v.start j t) (follow_decides i v.task v.start j t) (rw (one.0, one.1) broken) in
      rw f (ap Some one.1)

  in_time : (o : Option Turn) → IsBeforeIt p k t o → ((h s : ℕ) → IsLastBefore p k t h s → CanFollow i h s j t) → late_from i o j t ≡ None
  in_time None none comes = refl
  in_time (Some v) is comes = let e : can_follow i v.task v.start j t ≡ true = (follow_decides i v.task v.start j t).1 (comes v.task v.start is) in rw e refl

  follows : (v : Turn) → late_from i (Some v) j t ≡ None → CanFollow i v.task v.start j t
  follows v e =
      by_test (can_follow i v.task v.start j t) (λ y. (follow_decides i v.task v.start j t).0 y)
      (λ n. let x : Some v.task ≡ None = rw n at e in cc)

  comes_of : (o : Option Turn) → IsBeforeIt p k t o → late_from i o j t ≡ None → (h s : ℕ) → IsLastBefore p k t h s → CanFollow i h s j t
  comes_of None none e h s last = absurd (let l = none h s last.does in let m = last.before in omega arith)
  comes_of (Some v) is e h s last = comes_from i p k j t feasible (Some v) is (follows v e) h s last

  -- the first one after
  abbrev IsAfterIt : Option Turn → Type 0
  IsAfterIt o = MatchOption o ((h s : ℕ) → Does p k h s → s ≤ t) (λ v. IsFirstAfter p k t v.task v.start)

  first_of : (o : Option Turn) → MatchOption o ((h s : ℕ) → Does p k h s → (s < suc t) ⊎ (suc t + last_start p ≤ s)) (IsNextFrom p k (suc t)) → IsAfterIt o
  first_of None none = λ h s d. elim (none h s d) [
    | inl l ↦ omega arith
    | inr l ↦ absurd (let e = d.2 in let m = starts_by p h d.0 d.1 in omega arith)
  ]
  first_of (Some v) next = record { does = next.does; after = let l = next.from in omega arith; first = λ g r d. elim (next.first g r d) [ inl l ↦ inl (omega arith) | inr l ↦ inr l ] }

  after_is : IsAfterIt (first_after p k t)
  after_is = first_of (first_in p k (last_start p) (suc t)) (first_is p k (last_start p) (suc t))

  late_on : (o : Option Turn) (h u : ℕ) → IsAfterIt o → IsFirstAfter p k t h u → (CanFollow i j t h u → ⊥) → late_to i j t o ≡ Some h
  late_on None h u none first broken = absurd (let l = none h u first.does in let m = first.after in omega arith)
  late_on (Some v) h u is first broken =
      let one = one_first i p k j t feasible v.task v.start h u is first in
      let f : can_follow i j t v.task v.start ≡ false = fails (can_follow i j t v.task v.start) (follow_decides i j t v.task v.start) (rw (one.0, one.1) broken) in
      rw f (ap Some one.1)

  on_time : (o : Option Turn) → IsAfterIt o → ((h u : ℕ) → IsFirstAfter p k t h u → CanFollow i j t h u) → late_to i j t o ≡ None
  on_time None none goes = refl
  on_time (Some v) is goes = let e : can_follow i j t v.task v.start ≡ true = (follow_decides i j t v.task v.start).1 (goes v.task v.start is) in rw e refl

  goes_of : (o : Option Turn) → IsAfterIt o → late_to i j t o ≡ None → (h u : ℕ) → IsFirstAfter p k t h u → CanFollow i j t h u
  goes_of None none e h u first = absurd (let l = none h u first.does in let m = first.after in omega arith)
  goes_of (Some v) is e h u first =
      let one = one_first i p k j t feasible h u v.task v.start first is in
      let here : CanFollow i j t v.task v.start =
      by_test (can_follow i j t v.task v.start) (λ y. (follow_decides i j t v.task v.start).0 y) (λ n. let x : Some v.task ≡ None = rw n at e in cc)
      in
      rw (one.0, one.1) here

  fit_then : IsFit i j t k → (w : Option ℕ) → task_in_way i p k j t ≡ w → option_map_or Busy w Free ≡ obstacle_of i p k j t
  unfolding obstacle_of
  fit_then fit w e =
      picked_is (is_qualified i k j) (is_in_shift i k j t) (task_in_way i p k j t) w ((qualified_decides i k j).1 fit.qualified) ((shift_decides i k j t).1 fit.in_shift) e

  -- what is found is the obstacle
  pub told_is : (told : Obstacle) → IsObstacle i p k j t told → told ≡ obstacle_of i p k j t
  unfolding obstacle_of
  told_is told (LacksSkill broken is) =
      is ∙ ap (λ q. picked q (is_in_shift i k j t) (task_in_way i p k j t)) (sym (fails (is_qualified i k j) (qualified_decides i k j) broken))
  told_is told (IsOffShift qualified broken is) =
      let q : is_qualified i k j ≡ true = (qualified_decides i k j).1 qualified in
      let s : is_in_shift i k j t ≡ false = fails (is_in_shift i k j t) (shift_decides i k j t) broken in
      is ∙ rw (q, s) refl
  told_is told (BeginsThen fit h does is) =
      is ∙ fit_then fit (Some h) (way_is (task (turn_at p k t)) (late_from i (last_before p k t) j t) (late_to i j t (first_after p k t)) h (inl (begun (turn_at p k t) h (turn_is p k t) does)))
  told_is told (ComesLate fit idle h s last broken is) =
      is
      ∙ fit_then fit (Some h)
      (way_is (task (turn_at p k t)) (late_from i (last_before p k t) j t) (late_to i j t (first_after p k t)) h (inr (none_begun (turn_at p k t) (turn_is p k t) idle, inl (late (last_before p k t) h s (last_is p k t) last broken))))
  told_is told (GoesOnLate fit idle comes h u first broken is) =
      is
      ∙ fit_then fit (Some h)
      (way_is (task (turn_at p k t)) (late_from i (last_before p k t) j t) (late_to i j t (first_after p k t)) h
      (inr (none_begun (turn_at p k t) (turn_is p k t) idle, inr (in_time (last_before p k t) (last_is p k t) comes, late_on (first_after p k t) h u after_is first broken))))
  told_is told (HasNone free is) =
      is
      ∙ fit_then free.fit None
      (no_way (task (turn_at p k t)) (late_from i (last_before p k t) j t) (late_to i j t (first_after p k t)) (none_begun (turn_at p k t) (turn_is p k t) free.idle) (in_time (last_before p k t) (last_is p k t) free.comes) (on_time (first_after p k t) after_is free.goes_on))

  -- the tests where none of them fails
  record Passes (q s : Bool) (o : Option ℕ) : Type 0 where
    pub qualified : q ≡ true
    pub in_shift : s ≡ true
    pub clear : o ≡ None

  passes : (q s : Bool) (o : Option ℕ) → picked q s o ≡ Free → Passes q s o
  passes true true None e = record { qualified = refl; in_shift = refl; clear = refl }
  passes true true (Some h) e = cc
  passes true false o e = cc
  passes false s o e = cc

  -- none stands in the way exactly where the team is free
  pub none_is_free : k < length i.teams → (obstacle_of i p k j t ≡ Free) ↔ IsFreeFor i p k j t
  unfolding obstacle_of
  none_is_free known = ((λ e. free (passes (is_qualified i k j) (is_in_shift i k j t) (task_in_way i p k j t) e)), (λ f. sym (told_is Free (HasNone f refl))))
    where
      free : Passes (is_qualified i k j) (is_in_shift i k j t) (task_in_way i p k j t) → IsFreeFor i p k j t
      free e =
          let none = none_of (task (turn_at p k t)) (late_from i (last_before p k t) j t) (late_to i j t (first_after p k t)) e.clear in
          record {
            known = known;
            fit = record { qualified = (qualified_decides i k j).0 e.qualified; in_shift = (shift_decides i k j t).0 e.in_shift };
            idle = idle_of (turn_at p k t) (turn_is p k t) none.first;
            comes = comes_of (last_before p k t) (last_is p k t) none.second;
            goes_on = goes_of (first_after p k t) after_is none.third;
          }

  -- ---- a task in the way is one of the plan's

  task_named : Obstacle → ℕ
  task_named Free = 0
  task_named Skill = 0
  task_named Shift = 0
  task_named (Busy h) = h

  busy_with : (q s : Bool) (o : Option ℕ) (h : ℕ) → picked q s o ≡ Busy h → o ≡ Some h
  unfolding task_named
  busy_with true true None h e = cc
  busy_with true true (Some g) h e = ap (λ x. Some (task_named x)) e
  busy_with true false o h e = cc
  busy_with false s o h e = cc

  some_of : (a b c : Option ℕ) (h : ℕ) → option_or a (option_or b c) ≡ Some h → (a ≡ Some h) ⊎ ((b ≡ Some h) ⊎ (c ≡ Some h))
  some_of None None c h e = inr (inr e)
  some_of None (Some b) c h e = inr (inl e)
  some_of (Some a) b c h e = inl e

  is_task : (g h s : ℕ) → Does p k g s → g ≡ h → h < length i.tasks
  is_task g h s does same = let l = task_known p k g s does in let w = feasible.whole in omega arith

  turn_task : (o : Option Turn) (h : ℕ) → IsTurnAt p k t o → task o ≡ Some h → h < length i.tasks
  turn_task None h none e = cc
  turn_task (Some v) h at e = is_task v.task h v.start at.1 (ap (λ x. unwrap_or x 0) e)

  before_task : (o : Option Turn) (h : ℕ) → IsBeforeIt p k t o → late_from i o j t ≡ Some h → h < length i.tasks
  before_task None h none e = cc
  before_task (Some v) h is e =
      by_test (can_follow i v.task v.start j t) (λ y. absurd (let x : None ≡ Some h = rw y at e in cc))
      (λ n. let x : Some v.task ≡ Some h = rw n at e in is_task v.task h v.start is.does (ap (λ o. unwrap_or o 0) x))

  after_task : (o : Option Turn) (h : ℕ) → IsAfterIt o → late_to i j t o ≡ Some h → h < length i.tasks
  after_task None h none e = cc
  after_task (Some v) h is e =
      by_test (can_follow i j t v.task v.start) (λ y. absurd (let x : None ≡ Some h = rw y at e in cc))
      (λ n. let x : Some v.task ≡ Some h = rw n at e in is_task v.task h v.start is.does (ap (λ o. unwrap_or o 0) x))

  pub busy_is_known : (h : ℕ) → obstacle_of i p k j t ≡ Busy h → h < length i.tasks
  unfolding obstacle_of
  busy_is_known h e =
      let way = busy_with (is_qualified i k j) (is_in_shift i k j t) (task_in_way i p k j t) h e in
      elim (some_of (task (turn_at p k t)) (late_from i (last_before p k t) j t) (late_to i j t (first_after p k t)) h way) [
        | inl a ↦ turn_task (turn_at p k t) h (turn_is p k t) a
        | inr (inl b) ↦ before_task (last_before p k t) h (last_is p k t) b
        | inr (inr c) ↦ after_task (first_after p k t) h after_is c
      ]
