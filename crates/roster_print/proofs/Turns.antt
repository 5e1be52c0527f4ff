-- what a team does, in order
use Rattle.std.proofs.Common.{◌≡◌, ◌≤◌, ◌<◌, ◌+◌, ◌==◌, ◌&&◌, ◌||◌, ◌⊎◌, inl, inr, ◌++◌, ◌∷◌, [], ℕ, List, Bool, true, false, Option, None, Some, length, map, get_or, ap, sym, refl, subst, ◌∙◌, arith, eqb-true, eq-eqb}
use Rattle.std.specs.Prelude.{All, AllPairs, Contains}
use Rattle.std.specs.List.{filter, flat_map, list_any, range_with_len}
use Rattle.std.specs.Option.{option_map_or}
use Rattle.std.proofs.lemmas.List.{map-append}
use Rattle.std.proofs.lemmas.List.Elements.{Contains-get_or}
use Rattle.std.proofs.lemmas.List.Kept.{AllPairs-filter}
use Rattle.crew_terms.specs.Instance.{Instance, task_of, no_task}
use Rattle.crew_terms.specs.Plan.{Plan, Job, job_of, Does}
use Rattle.crew_terms.specs.Rules.{IsInstance, IsTask}
use Rattle.crew_terms.specs.Legal.{IsLegal}
use Rattle.crew_terms.specs.Verdict.{IsBefore}
use Rattle.crew_terms.specs.Nodes.{task_known}
use Rattle.crew_terms.specs.declared.TheConstants.{LAST_MINUTE}
use Rattle.crew_instance.specs.Turns.{AreTurns}
use Rattle.crew_instance.specs.declared.turns.Turn.{Turn}
use Rattle.roster_print.specs.Roster.{begins_at, tasks_before, tasks_in_turn}
use Rattle.roster_print.proofs.Ordered.{contains_cases, contains_first, contains_later, mapped_from, mapped_to, filtered_from, filtered_to, flat_from, flat_to, numbers_have, numbers_rise, mapped_sorted, flat_sorted, same_lists}

-- ---- who begins a task at a minute

any_first : (k g : ℕ) (teams : List ℕ) (b : Bool) → (g == k) ≡ b → (list_any (λ x. x == k) teams ≡ true → Contains teams k)
    → ((g == k) || list_any (λ x. x == k) teams) ≡ true → Contains (g ∷ teams) k
any_first k g teams true is later t = subst (Contains (g ∷ teams)) (eqb-true g k is) (contains_first g teams)
any_first k g teams false is later t = contains_later g teams k (later (rw is at t))

any_from : (k : ℕ) (teams : List ℕ) → list_any (λ g. g == k) teams ≡ true → Contains teams k
any_from k [] h = absurd (cc)
any_from k (g ∷ teams) h = any_first k g teams (g == k) refl (any_from k teams) h

any_one : (k g : ℕ) (teams : List ℕ) (b : Bool) → (g == k) ≡ b → (Contains teams k → list_any (λ x. x == k) teams ≡ true)
    → (g ≡ k) ⊎ Contains teams k → ((g == k) || list_any (λ x. x == k) teams) ≡ true
any_one k g teams true is later at = rw is refl
any_one k g teams false is later (inl same) = absurd (let e = eq-eqb g k same in let t : true ≡ false = sym e ∙ is in cc)
any_one k g teams false is later (inr c) = rw is (later c)

any_to : (k : ℕ) (teams : List ℕ) → Contains teams k → list_any (λ g. g == k) teams ≡ true
any_to k [] (n, within, is) = absurd (omega arith)
any_to k (g ∷ teams) c = any_one k g teams (g == k) refl (any_to k teams) (contains_cases g teams k c)

begins_does : (p : Plan) (k j t : ℕ) (o : Option Job) → job_of p j ≡ o → option_map_or (λ job. (job.start == t) && list_any (λ g. g == k) job.teams) o false ≡ true → Does p k j t
begins_does p k j t None is h = absurd (cc)
begins_does p k j t (Some job) is h = of (job.start == t) refl h
  where
    of : (b : Bool) → (job.start == t) ≡ b → ((job.start == t) && list_any (λ g. g == k) job.teams) ≡ true → Does p k j t
    of true same g = (job, is, eqb-true job.start t same, any_from k job.teams (rw same at g))
    of false other g = let e : false ≡ true = rw other at g in absurd (cc)

pub begins_is : (p : Plan) (k j t : ℕ) → begins_at p k t j ≡ true → Does p k j t
begins_is p k j t h = begins_does p k j t (job_of p j) refl h

pub does_is : (p : Plan) (k j t : ℕ) → Does p k j t → begins_at p k t j ≡ true
does_is p k j t (job, is, start, member) =
    let a : (job.start == t) ≡ true = eq-eqb job.start t start in
    let b : list_any (λ g. g == k) job.teams ≡ true = any_to k job.teams member in
    ap (λ o. option_map_or (λ (w : Job). (w.start == t) && list_any (λ g. g == k) w.teams) o false) is ∙ rw (a, b) refl

-- ---- the turns of a team

abbrev turn : ℕ → ℕ → Turn
turn t j = record { start = t; task = j }

abbrev IsEarlier : Turn → Turn → Type 0
IsEarlier a b = IsBefore a.start a.task b.start b.task

turns_at : Plan → ℕ → ℕ → List Turn
turns_at p k t = map (turn t) (filter (begins_at p k t) (range_with_len 0 (length p)))

turns_before : Plan → ℕ → ℕ → List Turn
turns_before p k m = flat_map (turns_at p k) (range_with_len 0 m)

at_from : (p : Plan) (k t : ℕ) (v : Turn) → Contains (turns_at p k t) v → (v.start ≡ t) × Does p k v.task v.start
unfolding turns_at
at_from p k t v c =
    let m = mapped_from (turn t) (filter (begins_at p k t) (range_with_len 0 (length p))) v c in
    let f = filtered_from (begins_at p k t) (range_with_len 0 (length p)) m.0 m.1 in
    (ap (λ w. w.start) (sym m.2), subst (λ (w : Turn). Does p k w.task w.start) m.2 (begins_is p k m.0 t f.1))

at_to : (p : Plan) (k : ℕ) (v : Turn) → Does p k v.task v.start → Contains (turns_at p k v.start) v
unfolding turns_at
at_to p k v does =
    mapped_to (turn v.start) (filter (begins_at p k v.start) (range_with_len 0 (length p))) v.task
    (filtered_to (begins_at p k v.start) (range_with_len 0 (length p)) v.task (numbers_have (length p) v.task (task_known p k v.task v.start does)) (does_is p k v.task v.start does))

at_sorted : (p : Plan) (k t : ℕ) → AllPairs IsEarlier (turns_at p k t)
unfolding turns_at
at_sorted p k t =
    mapped_sorted IsEarlier (turn t) (filter (begins_at p k t) (range_with_len 0 (length p)))
    (λ i j d order within. inr (refl, AllPairs-filter (λ x y. x < y) (begins_at p k t) (range_with_len 0 (length p)) (numbers_rise (length p)) i j d order within))

at_apart : (p : Plan) (k t u : ℕ) → t < u → All (λ a. All (IsEarlier a) (turns_at p k u)) (turns_at p k t)
at_apart p k t u order = λ i d within. λ j e below.
    let a = at_from p k t (get_or (turns_at p k t) i d) (Contains-get_or (turns_at p k t) i d within) in
    let b = at_from p k u (get_or (turns_at p k u) j e) (Contains-get_or (turns_at p k u) j e below) in
    inl (omega (arith, a.0, b.0, order))

before_sorted : (p : Plan) (k m : ℕ) → AllPairs IsEarlier (turns_before p k m)
unfolding turns_before
before_sorted p k m = flat_sorted (λ x y. x < y) IsEarlier (turns_at p k) (range_with_len 0 m) (numbers_rise m) (at_sorted p k) (at_apart p k)

before_from : (p : Plan) (k m : ℕ) (v : Turn) → Contains (turns_before p k m) v → Does p k v.task v.start
unfolding turns_before
before_from p k m v c = let f = flat_from (turns_at p k) (range_with_len 0 m) v c in (at_from p k f.0 v f.2).1

before_to : (p : Plan) (k m : ℕ) (v : Turn) → Does p k v.task v.start → v.start < m → Contains (turns_before p k m) v
unfolding turns_before
before_to p k m v does below = flat_to (turns_at p k) (range_with_len 0 m) v.start v (numbers_have m v.start below) (at_to p k v does)

same_tasks : (t : ℕ) (js : List ℕ) → map (λ (v : Turn). v.task) (map (turn t) js) ≡ js
same_tasks t [] = refl
same_tasks t (j ∷ js) = ap (λ l. j ∷ l) (same_tasks t js)

tasks_of_turns : (p : Plan) (k : ℕ) (ts : List ℕ) → map (λ (v : Turn). v.task) (flat_map (turns_at p k) ts) ≡ flat_map (λ t. filter (begins_at p k t) (range_with_len 0 (length p))) ts
unfolding turns_at
tasks_of_turns p k [] = refl
tasks_of_turns p k (t ∷ ts) =
    map-append (λ (v : Turn). v.task) (turns_at p k t) (flat_map (turns_at p k) ts)
    ∙ ap (λ l. l ++ map (λ (v : Turn). v.task) (flat_map (turns_at p k) ts)) (same_tasks t (filter (begins_at p k t) (range_with_len 0 (length p))))
    ∙ ap (λ l. filter (begins_at p k t) (range_with_len 0 (length p)) ++ l) (tasks_of_turns p k ts)

one_way : (a b : Turn) → IsEarlier a b → IsEarlier b a → ⊥
one_way a b (inl x) (inl y) = omega arith
one_way a b (inl x) (inr y) = omega arith
one_way a b (inr x) (inl y) = omega arith
one_way a b (inr x) (inr y) = omega arith

in_day : (i : Instance) (p : Plan) (k j t : ℕ) → IsInstance i → IsLegal i p → Does p k j t → t ≤ LAST_MINUTE
in_day i p k j t limits legal does =
    let job = does.0 in
    let within : j < length i.tasks = subst (λ n. j < n) legal.feasible.whole (task_known p k j t does) in
    let task : IsTask (length i.places) (task_of i j) = limits.parts.tasks j no_task within in
    let late = (legal.feasible.jobs j job does.1).window.late in
    let day = task.window.day in
    let start : job.start ≡ t = does.2 in
    omega (arith, late, day, start)

-- the turns of a team are at its tasks in order
pub turns_are : (i : Instance) (p : Plan) (k : ℕ) (turns : List Turn) → IsInstance i → IsLegal i p → AreTurns p k (length p) turns → map (λ (v : Turn). v.task) turns ≡ tasks_in_turn p k
unfolding tasks_in_turn tasks_before turns_before
turns_are i p k turns limits legal are =
    let same : turns ≡ turns_before p k (LAST_MINUTE + 1) =
    same_lists IsEarlier one_way turns (turns_before p k (LAST_MINUTE + 1)) are.order (before_sorted p k (LAST_MINUTE + 1))
    (λ v c. let does = (are.done v c).0 in before_to p k (LAST_MINUTE + 1) v does (let e = in_day i p k v.task v.start limits legal does in omega arith))
    (λ v c. let does = before_from p k (LAST_MINUTE + 1) v c in are.all v.task v.start (task_known p k v.task v.start does) does)
    in
    ap (map (λ (v : Turn). v.task)) same ∙ tasks_of_turns p k (range_with_len 0 (LAST_MINUTE + 1))
