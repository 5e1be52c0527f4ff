-- the wave so far: the first n turns have begun
use Rattle.std.proofs.Common.{◌≡◌, ◌≢◌, ◌<◌, ◌≤◌, ◌+◌, ◌*◌, ◌⊎◌, inl, inr, ℕ, List, Option, Some, None, MatchOption, true, false, eqb, length, max, get_or, arith, refl, sym, ap, subst, ◌∙◌}
use Rattle.std.specs.Prelude.{Contains, unwrap_or}
use Rattle.std.specs.Option.{option_map}
use Rattle.std.proofs.lemmas.Bool.{cases_Bool, cases_lt, cases_order}
use Rattle.std.specs.List.{list_any}
use Rattle.std.proofs.lemmas.List.{get_or-set_other, get_or-set_same, length-set, get_or_default}
use Rattle.std.proofs.lemmas.List.Elements.{Contains-get_or}
use Rattle.std.proofs.lemmas.List.Kept.{AllPairs-from_increasing}
use Rattle.std.specs.List.Sorted.{IsStrictlyIncreasing}
use Rattle.crew_laws.specs.Listed.{any_contains, contains_any}
use Rattle.crew_terms.specs.Instance.{Instance, task_of}
use Rattle.crew_terms.specs.Plan.{Plan, Job, job_of, Does}
use Rattle.crew_terms.specs.Legal.{IsFeasible}
use Rattle.crew_terms.specs.Verdict.{IsNext}
use Rattle.crew_instance.specs.declared.turns.Turn.{Turn}
use Rattle.delay_wave.specs.declared.lates.Late.{Late}
use Rattle.delay_wave.specs.declared.steps.Ended.{Ended}
use Rattle.delay_wave.specs.declared.waits.Wait.{Wait}
use Rattle.delay_wave.specs.Ends.{end_of, minutes_to, told_end}
use Rattle.delay_wave.specs.Delays.{HoldsUp, IsTight, ready_at}
use Rattle.delay_wave.specs.Order.{AreInOrder, turn_at}
use Rattle.delay_wave.specs.Steps.{AreNoted, IsHeldAt, IsStep, IsWaitAfter, last_of, ready_from}
use Rattle.delay_wave.specs.Waits.{start_of, starts_in, wait_of}
use Rattle.delay_wave.proofs.Turns.{turn}
use Rattle.delay_wave.proofs.Neighbours.{is_last, is_next, next_is_later, not_idle, one_start, planned_of}

-- the turn's task begins as planned, or as soon as its last team can come
pub record IsPlaced (i : Instance) (p : Plan) (lates : List Late) (w : List (Option Wait)) (v : Turn) : Type 0 where
  pub wait : Wait
  pub is : wait_of w v.task ≡ Some wait
  pub planned : v.start ≤ wait.start
  pub follow : (k g s : ℕ) → IsNext p k g s v.task v.start → ready_at i lates g (starts_in w g) v.task ≤ wait.start
  pub held : MatchOption wait.held_by (wait.start ≡ v.start) (λ g. (v.start < wait.start) × HoldsUp i p lates (starts_in w) g v.task)

-- of the first n turns, this is the last of team k
pub record IsLast (i : Instance) (p : Plan) (lates : List Late) (turns : List Turn) (n : ℕ) (w : List (Option Wait)) (k : ℕ) (e : Ended) : Type 0 where
  pub place : ℕ
  pub below : place < n
  pub task : (turn_at turns place).task ≡ e.task
  pub does : Does p k e.task (turn_at turns place).start
  pub end : e.end ≡ end_of i lates e.task (starts_in w e.task)
  pub latest : (b : ℕ) → place < b → b < n → (s : ℕ) → Does p k (turn_at turns b).task s → ⊥

-- the first n turns have begun, and no other task
pub record IsSoFar (i : Instance) (p : Plan) (lates : List Late) (turns : List Turn) (n : ℕ) (last : List (Option Ended)) (w : List (Option Wait)) : Type 0 where
  pub whole : length w ≡ length p
  pub placed : (a : ℕ) → a < n → IsPlaced i p lates w (turn_at turns a)
  pub rest : (j : ℕ) → ((a : ℕ) → a < n → (turn_at turns a).task ≢ j) → wait_of w j ≡ None
  pub idle : (k : ℕ) → last_of last k ≡ None → (a s : ℕ) → a < n → Does p k (turn_at turns a).task s → ⊥
  pub busy : (k : ℕ) (e : Ended) → last_of last k ≡ Some e → IsLast i p lates turns n w k e

-- a start is that of the wait
pub start_is : (w : List (Option Wait)) (j : ℕ) (wait : Wait) → wait_of w j ≡ Some wait → starts_in w j ≡ wait.start
start_is w j wait e = ap (λ (o : Option Wait). unwrap_or (option_map (λ (v : Wait). v.start) o) 0) e

-- what holds task h up does so where neither its start nor that of a task before it changes
pub still_held : (i : Instance) (p : Plan) (lates : List Late) (x y : ℕ → ℕ) (j h : ℕ) → x h ≡ y h
    → ((k g s u : ℕ) → IsNext p k g s h u → x g ≡ y g) → HoldsUp i p lates x j h → HoldsUp i p lates y j h
still_held i p lates x y j h same before up = record {
  team = up.team;
  tight = tight_in x y same before up.team j up.tight;
  lowest = λ k g t. up.lowest k g (tight_in y x (sym same) (λ k g s u n. sym (before k g s u n)) k g t);
}
  where
    tight_in : (a b : ℕ → ℕ) → a h ≡ b h → ((k g s u : ℕ) → IsNext p k g s h u → a g ≡ b g) → (k g : ℕ) → IsTight i p lates a k g h → IsTight i p lates b k g h
    tight_in a b e f k g t = record {
      planned = t.planned;
      next_planned = t.next_planned;
      next = t.next;
      meets = sym e ∙ t.meets ∙ ap (λ s. ready_at i lates g s h) (f k g t.planned t.next_planned t.next);
    }

module _ (i : Instance) (p : Plan) (lates : List Late) (turns : List Turn) (feasible : IsFeasible i p) (ord : AreInOrder p turns)
    (n : ℕ) (inside : n < length turns) (last : List (Option Ended)) (w : List (Option Wait)) (far : IsSoFar i p lates turns n last w)
    (h u : ℕ) (there : turn_at turns n ≡ turn h u) (job : Job) (at : job_of p h ≡ Some job) (starts : job.start ≡ u)
    (new_last : List (Option Ended)) (new : List (Option Wait))
    (step : IsStep i (told_end lates h) (turn h u) job.teams last w new_last new) (room : h < length w) where
  same_wait : (g : ℕ) → g ≢ h → wait_of new g ≡ wait_of w g
  same_wait g ne = ap (λ ws. wait_of ws g) step.placed ∙ get_or-set_other w h g (Some step.wait) None ne

  new_wait : wait_of new h ≡ Some step.wait
  new_wait = ap (λ ws. wait_of ws h) step.placed ∙ get_or-set_same w h (Some step.wait) None room

  same_start : (g : ℕ) → g ≢ h → starts_in new g ≡ starts_in w g
  same_start g ne = ap (λ (o : Option Wait). unwrap_or (option_map (λ (v : Wait). v.start) o) 0) (same_wait g ne)

  new_start : starts_in new h ≡ step.wait.start
  new_start = start_is new h step.wait new_wait

  apart_from : (a : ℕ) → a < n → (turn_at turns a).task ≢ h
  apart_from a l e = ord.apart a n l inside (e ∙ sym (ap (λ (v : Turn). v.task) there))

  -- who does the task, and when
  its_team : (k s : ℕ) → Does p k h s → Contains job.teams k
  its_team k s (other, e, t, m) =
      let x : Some other ≡ Some job = sym e ∙ at in let y : other ≡ job = cc in subst (λ (o : Job). Contains o.teams k) y m

  does_it : (k : ℕ) → Contains job.teams k → Does p k h u
  does_it k m = (job, at, starts, m)

  its_start : (k s : ℕ) → Does p k h s → s ≡ u
  its_start k s d = one_start p k k h s u d (does_it k (its_team k s d))

  in_list : (k : ℕ) → Contains job.teams k → (b : ℕ) × (b < length job.teams) × (get_or job.teams b 0 ≡ k)
  in_list k (b, l, e) = (b, l, get_or_default job.teams b 0 k l ∙ e)

  -- what a team did last
  module _ (k : ℕ) (e : Ended) (did : last_of last k ≡ Some e) where
    abbrev is : IsLast i p lates turns n w k e
    is = far.busy k e did

    other : e.task ≢ h
    other same = apart_from is.place is.below (is.task ∙ same)

    next_from : Contains job.teams k → IsNext p k e.task (turn_at turns is.place).start h u
    next_from m =
        is_next i p feasible turns ord k n is.place inside is.below e.task (turn_at turns is.place).start h u
        (ap (λ j. turn j (turn_at turns is.place).start) is.task) there is.does (does_it k m) is.latest

    ready_new : ready_at i lates e.task (starts_in new e.task) h ≡ ready_from i e h
    ready_new = ap (λ s. ready_at i lates e.task s h) (same_start e.task other) ∙ ap (λ m. m + minutes_to i e.task h) (sym is.end)

  record Before (k g : ℕ) : Type 0 where
    pub ended : Ended
    pub did : last_of last k ≡ Some ended
    pub task : ended.task ≡ g

  before : (k g s : ℕ) → IsNext p k g s h u → Before k g
  before k g s next = by (last_of last k) refl
    where
      by : (o : Option Ended) → last_of last k ≡ o → Before k g
      by None e = absurd (not_idle i p feasible turns ord k n h u g s there next (far.idle k e))
      by (Some e) did =
          let l = far.busy k e did in
          record {
            ended = e;
            did = did;
            task = is_last i p feasible turns ord k n l.place inside l.below e.task (turn_at turns l.place).start h u
                (ap (λ j. turn j (turn_at turns l.place).start) l.task) there l.does l.latest g s next;
          }

  ready_before : (k g : ℕ) (b : Before k g) → ready_at i lates g (starts_in new g) h ≡ ready_from i b.ended h
  ready_before k g b = subst (λ j. ready_at i lates j (starts_in new j) h ≡ ready_from i b.ended h) b.task (ready_new k b.ended b.did)

  follow_here : (k g s : ℕ) → IsNext p k g s h u → ready_at i lates g (starts_in new g) h ≤ step.wait.start
  follow_here k g s next =
      let b = before k g s next in let l = in_list k (its_team k u next.second) in
      let c = step.is.comes l.0 b.ended l.1 (subst (λ m. last_of last m ≡ Some b.ended) (sym l.2) b.did) in
      let e = ready_before k g b in omega arith

  rising : (a b : ℕ) → a ≤ b → b < length job.teams → get_or job.teams a 0 ≤ get_or job.teams b 0
  rising a b l m = by (cases_order a b)
    where
      list : IsStrictlyIncreasing job.teams
      list = (feasible.jobs h job at).list.rising

      by : (a ≡ b) ⊎ ((a < b) ⊎ (b < a)) → get_or job.teams a 0 ≤ get_or job.teams b 0
      by (inl e) = let x = ap (λ c. get_or job.teams c 0) e in omega arith
      by (inr (inl less)) = let x = AllPairs-from_increasing job.teams list a b 0 less m in omega arith
      by (inr (inr more)) = absurd (omega arith)

  module _ (j : ℕ) (hold : IsHeldAt i last job.teams h (length job.teams) step.wait.start j) where
    member : Contains job.teams (get_or job.teams hold.place 0)
    member = Contains-get_or job.teams hold.place 0 hold.below

    tight_here : IsTight i p lates (starts_in new) (get_or job.teams hold.place 0) j h
    tight_here =
        subst (λ g. IsTight i p lates (starts_in new) (get_or job.teams hold.place 0) g h) hold.task
        (record {
          planned = (turn_at turns (far.busy (get_or job.teams hold.place 0) hold.ended hold.did).place).start;
          next_planned = u;
          next = next_from (get_or job.teams hold.place 0) hold.ended hold.did member;
          meets = new_start ∙ hold.meets ∙ sym (ready_new (get_or job.teams hold.place 0) hold.ended hold.did);
        })

    lowest_here : (k g : ℕ) → IsTight i p lates (starts_in new) k g h → get_or job.teams hold.place 0 ≤ k
    lowest_here k g t = by (cases_lt l.0 hold.place)
      where
        l : (b : ℕ) × (b < length job.teams) × (get_or job.teams b 0 ≡ k)
        l = in_list k (its_team k t.next_planned t.next.second)

        next : IsNext p k g t.planned h u
        next = subst (λ s. IsNext p k g t.planned h s) (its_start k t.next_planned t.next.second) t.next

        too_early : l.0 < hold.place → ⊥
        too_early less =
            let b = before k g t.planned next in
            let f = hold.first l.0 b.ended less (subst (λ m. last_of last m ≡ Some b.ended) (sym l.2) b.did) in
            let e = ready_before k g b in let m = t.meets in let s = new_start in omega arith

        by : (l.0 < hold.place) ⊎ (hold.place ≤ l.0) → get_or job.teams hold.place 0 ≤ k
        by (inl less) = absurd (too_early less)
        by (inr more) = let r = rising hold.place l.0 more l.1 in let e = l.2 in omega arith

    holds_here : HoldsUp i p lates (starts_in new) j h
    holds_here = record { team = get_or job.teams hold.place 0; tight = tight_here; lowest = lowest_here }

  held_here : (o : Option ℕ) → MatchOption o (step.wait.start ≡ u) (λ j. (u < step.wait.start) × IsHeldAt i last job.teams h (length job.teams) step.wait.start j)
      → MatchOption o (step.wait.start ≡ u) (λ j. (u < step.wait.start) × HoldsUp i p lates (starts_in new) j h)
  held_here None e = e
  held_here (Some j) (later, hold) = (later, holds_here j hold)

  placed_here : IsPlaced i p lates new (turn h u)
  placed_here = record {
    wait = step.wait;
    is = new_wait;
    planned = step.is.planned;
    follow = follow_here;
    held = held_here step.wait.held_by step.is.held;
  }

  -- what has begun before stays as it is
  module _ (a : ℕ) (l : a < n) (old : IsPlaced i p lates w (turn_at turns a)) where
    before_is_other : (k g s t : ℕ) → IsNext p k g s (turn_at turns a).task t → g ≢ h
    before_is_other k g s t next same =
        let e : s ≡ u = its_start k s (subst (λ j. Does p k j s) same next.first) in
        let x : Some t ≡ Some (turn_at turns a).start = sym (planned_of p k (turn_at turns a).task t next.second) ∙ ord.planned a (omega arith) in
        let f : t ≡ (turn_at turns a).start = cc in
        let m = next_is_later i p feasible k g s (turn_at turns a).task t next in
        let r = ord.rising a n (omega arith) inside in
        let y = ap (λ (v : Turn). v.start) there in omega arith

    still : (o : Option ℕ) → MatchOption o (old.wait.start ≡ (turn_at turns a).start) (λ g. ((turn_at turns a).start < old.wait.start) × HoldsUp i p lates (starts_in w) g (turn_at turns a).task)
        → MatchOption o (old.wait.start ≡ (turn_at turns a).start) (λ g. ((turn_at turns a).start < old.wait.start) × HoldsUp i p lates (starts_in new) g (turn_at turns a).task)
    still None e = e
    still (Some g) (later, up) = (
      later,
      still_held i p lates (starts_in w) (starts_in new) g (turn_at turns a).task (sym (same_start (turn_at turns a).task (apart_from a l)))
          (λ k f s t next. sym (same_start f (before_is_other k f s t next))) up,
    )

    placed_before : IsPlaced i p lates new (turn_at turns a)
    placed_before = record {
      wait = old.wait;
      is = same_wait (turn_at turns a).task (apart_from a l) ∙ old.is;
      planned = old.planned;
      follow = λ k g s next.
          let e = ap (λ x. ready_at i lates g x (turn_at turns a).task) (same_start g (before_is_other k g s (turn_at turns a).start next)) in
          let m = old.follow k g s next in omega arith;
      held = still old.wait.held_by old.held;
    }

  placed : (a : ℕ) → a < n + 1 → IsPlaced i p lates new (turn_at turns a)
  placed a l = by (cases_lt a n)
    where
      by : (a < n) ⊎ (n ≤ a) → IsPlaced i p lates new (turn_at turns a)
      by (inl m) = placed_before a m (far.placed a m)
      by (inr m) = let e : n ≡ a = omega arith in subst (IsPlaced i p lates new) (sym there ∙ ap (turn_at turns) e) placed_here

  rest : (j : ℕ) → ((a : ℕ) → a < n + 1 → (turn_at turns a).task ≢ j) → wait_of new j ≡ None
  rest j none =
      let ne : j ≢ h = λ e. none n (omega arith) (ap (λ (v : Turn). v.task) there ∙ sym e) in
      same_wait j ne ∙ far.rest j (λ a l. none a (omega arith))

  -- one of its teams, or another
  its_or_not : (k : ℕ) → Contains job.teams k ⊎ (Contains job.teams k → ⊥)
  its_or_not k = elim (cases_Bool (list_any (λ x. eqb x k) job.teams)) [
    | inl e ↦ inl (contains_any job.teams k e)
    | inr e ↦ inr (λ c. let x : true ≡ false = sym (any_contains job.teams k c) ∙ e in cc)
  ]

  noted : (k : ℕ) → Contains job.teams k → last_of new_last k ≡ Some (record { task = h; end = max (step.wait.start + (task_of i h).minutes) (told_end lates h) })
  noted k m = let l = in_list k m in subst (λ c. last_of new_last c ≡ Some (record { task = h; end = max (step.wait.start + (task_of i h).minutes) (told_end lates h) })) l.2 (step.noted.noted l.0 l.1)

  unnoted : (k : ℕ) → (Contains job.teams k → ⊥) → last_of new_last k ≡ last_of last k
  unnoted k not = step.noted.others k (λ b l e. not (subst (Contains job.teams) e (Contains-get_or job.teams b 0 l)))

  not_then : (k s : ℕ) → (Contains job.teams k → ⊥) → Does p k (turn_at turns n).task s → ⊥
  not_then k s not d = not (its_team k s (subst (λ (v : Turn). Does p k v.task s) there d))

  idle : (k : ℕ) → last_of new_last k ≡ None → (a s : ℕ) → a < n + 1 → Does p k (turn_at turns a).task s → ⊥
  idle k none a s l d = by (its_or_not k)
    where
      old : (Contains job.teams k → ⊥) → (a < n) ⊎ (n ≤ a) → ⊥
      old not (inl m) = far.idle k (sym (unnoted k not) ∙ none) a s m d
      old not (inr m) = let e : a ≡ n = omega arith in not_then k s not (subst (λ b. Does p k (turn_at turns b).task s) e d)

      by : Contains job.teams k ⊎ (Contains job.teams k → ⊥) → ⊥
      by (inl m) = let x = sym none ∙ noted k m in cc
      by (inr not) = old not (cases_lt a n)

  last_here : (k : ℕ) → Contains job.teams k → IsLast i p lates turns (n + 1) new k (record { task = h; end = max (step.wait.start + (task_of i h).minutes) (told_end lates h) })
  last_here k m = record {
    place = n;
    below = omega arith;
    task = ap (λ (v : Turn). v.task) there;
    does = subst (Does p k h) (sym (ap (λ (v : Turn). v.start) there)) (does_it k m);
    end = ap (end_of i lates h) (sym new_start);
    latest = λ b more less s d. absurd (omega arith);
  }

  last_before : (k : ℕ) (e : Ended) → (Contains job.teams k → ⊥) → last_of last k ≡ Some e → IsLast i p lates turns (n + 1) new k e
  last_before k e not did = record {
    place = l.place;
    below = let b = l.below in omega arith;
    task = l.task;
    does = l.does;
    end = l.end ∙ ap (end_of i lates e.task) (sym (same_start e.task (other k e did)));
    latest = λ b more less s d. at_place b more less s d (cases_lt b n);
  }
    where
      l : IsLast i p lates turns n w k e
      l = far.busy k e did

      at_place : (b : ℕ) → l.place < b → b < n + 1 → (s : ℕ) → Does p k (turn_at turns b).task s → (b < n) ⊎ (n ≤ b) → ⊥
      at_place b more less s d (inl m) = l.latest b more m s d
      at_place b more less s d (inr m) = let f : b ≡ n = omega arith in not_then k s not (subst (λ c. Does p k (turn_at turns c).task s) f d)

  busy : (k : ℕ) (e : Ended) → last_of new_last k ≡ Some e → IsLast i p lates turns (n + 1) new k e
  busy k e did = elim (its_or_not k) [
    | inl m ↦ (let x = sym (noted k m) ∙ did in let y : record { task = h; end = max (step.wait.start + (task_of i h).minutes) (told_end lates h) } ≡ e = cc in subst (IsLast i p lates turns (n + 1) new k) y (last_here k m))
    | inr not ↦ last_before k e not (sym (unnoted k not) ∙ did)
  ]

  -- one turn more
  pub one_more : IsSoFar i p lates turns (n + 1) new_last new
  one_more = record { whole = ap length step.placed ∙ length-set w h (Some step.wait) ∙ far.whole; placed = placed; rest = rest; idle = idle; busy = busy }
