-- a legal plan, cut down to the tasks of an instance that restricts its own
use Rattle.std.proofs.Common.{◌≡◌, ◌≢◌, ◌≤◌, ◌<◌, ◌+◌, ℕ, suc, List, [], ◌∷◌, length, get_or, ap, sym, subst, ◌∙◌, arith, ◌⊎◌, inl, inr, None, Some}
use Rattle.std.specs.Prelude.{AllPairs, Contains}
use Rattle.std.specs.Int.{bit_at}
use Rattle.std.proofs.lemmas.Bool.{cases_lt}
use Rattle.std.proofs.lemmas.List.{get_or-map, length-map}
use Rattle.std.proofs.lemmas.List.Kept.{AllPairs-from_increasing}
use Rattle.crew_terms.specs.Instance.{Instance, CanFollow, minutes_between, no_task, no_team, task_of, team_of}
use Rattle.crew_terms.specs.Legal.{IsFit, IsJob, IsLegal}
use Rattle.crew_terms.specs.Limits.{GoesOn, IsRoute, root_limits}
use Rattle.crew_terms.specs.Nodes.{job_known}
use Rattle.crew_terms.specs.Plan.{Does, Job, Plan, job_of}
use Rattle.crew_terms.specs.Rules.{IsInstance}
use Rattle.crew_terms.specs.declared.Task.{Task}
use Rattle.crew_terms.specs.declared.Team.{Team}
use Rattle.crew_terms.specs.declared.Visit.{Visit}
use Rattle.crew_laws.specs.Listed.{of_either}
use Rattle.crew_laws.specs.Visits.{AreVisitsOf, visit}
use Rattle.part_terms.specs.Parts.{AreShorterTimes, Restricts, cut_down}

module _ (i j : Instance) (times : AreShorterTimes i j) (placed : (x : ℕ) → x < length i.tasks → (task_of i x).place < length j.places) where
  -- with the shorter times a team can come from one visit to another
  abbrev Reaches : Visit → Visit → Type 0
  Reaches v w = v.start + (task_of i v.task).minutes + minutes_between j (task_of i v.task).place (task_of i w.task).place ≤ w.start

  -- and from a visit of a route to each later one
  reaches_later : (k : ℕ) (v w : Visit) (vs : List Visit) → GoesOn (root_limits i) k v vs → Contains vs w → Reaches v w
  reaches_later k v w [] goes (m, below, e) = absurd (omega arith)
  reaches_later k v w (x ∷ xs) (step, permitted, rest) c = by (of_either x w xs c) (reaches_later k x w xs rest)
    where
      place : Visit → ℕ
      place y = (task_of i y.task).place

      first : Reaches v x
      first = let s = times.shorter (place v) (place x) in let f = step.follow in omega arith

      by : (x ≡ w) ⊎ Contains xs w → (Contains xs w → Reaches x w) → Reaches v w
      by (inl e) later = subst (Reaches v) e first
      by (inr d) later =
          let on = later d in
          let f = first in
          let t = times.triangle (place v) (place x) (place w) (placed x.task permitted.known) in
          omega arith

  -- a route goes on as one
  onward : (k : ℕ) (x : Visit) (ys : List Visit) → GoesOn (root_limits i) k x ys → IsRoute (root_limits i) k ys
  onward k x [] goes = tt
  onward k x (y ∷ ys) (step, permitted, goes) = (permitted, goes)

  -- and from each visit of a route to each later one
  reaches_in : (k : ℕ) (v w : Visit) (vs : List Visit) → IsRoute (root_limits i) k vs → AllPairs (λ (a b : Visit). a.start < b.start) vs
      → Contains vs v → Contains vs w → v.start < w.start → Reaches v w
  reaches_in k v w [] route rising (m, below, e) d l = absurd (omega arith)
  reaches_in k v w (x ∷ xs) route rising c d l =
      by (of_either x v xs c) (of_either x w xs d) (λ a b. reaches_in k v w xs (onward k x xs route.1) (λ m n y l h. rising (suc m) (suc n) y (omega arith) (omega arith)) a b l)
    where
      later : (y : Visit) → Contains xs y → x.start < y.start
      later y (m, below, e) =
          let r : x.start < (get_or xs m y).start = rising 0 (suc m) y (omega arith) (omega arith) in
          let s : (get_or xs m y).start ≡ y.start = ap (λ (z : Visit). z.start) e in
          omega arith

      by : (x ≡ v) ⊎ Contains xs v → (x ≡ w) ⊎ Contains xs w → (Contains xs v → Contains xs w → Reaches v w) → Reaches v w
      by (inl e) (inl f) behind = let same : v.start ≡ w.start = ap (λ (z : Visit). z.start) (sym e ∙ f) in absurd (omega arith)
      by (inl e) (inr b) behind = subst (λ z. Reaches z w) e (reaches_later k x w xs route.1 b)
      by (inr a) (inl f) behind = let same : x.start ≡ w.start = ap (λ (z : Visit). z.start) f in let before = later v a in absurd (omega arith)
      by (inr a) (inr b) behind = behind a b

module _ (i j : Instance) (tasks : List ℕ) (is : IsInstance i) (r : Restricts i j tasks) (p : Plan) (legal : IsLegal i p) where
  abbrev number : ℕ → ℕ
  number x = get_or tasks x 0

  abbrev q : Plan
  q = cut_down p tasks

  placed : (x : ℕ) → x < length i.tasks → (task_of i x).place < length j.places
  placed x below = subst (λ (ps : List (List ℕ)). (task_of i x).place < length ps) (sym r.places) (is.parts.tasks x no_task below).place

  job_at : (p : Plan) (x : ℕ) → x < length tasks → job_of (cut_down p tasks) x ≡ job_of p (number x)
  job_at p x below = get_or-map (job_of p) tasks x 0 None below

  known : (p : Plan) (x : ℕ) (job : Job) → job_of (cut_down p tasks) x ≡ Some job → x < length tasks
  known p x job is = let l = job_known (cut_down p tasks) x job is in let m = length-map tasks (job_of p) in omega arith

  task_at : (x : ℕ) → x < length tasks → task_of j x ≡ task_of i (number x)
  task_at x below = ap (λ (ts : List Task). get_or ts x no_task) r.kept ∙ get_or-map (task_of i) tasks x 0 no_task below

  team_at : (k : ℕ) → team_of j k ≡ team_of i k
  team_at k = ap (λ (ts : List Team). get_or ts k no_team) r.teams

  of_whole : (x : ℕ) (job : Job) → job_of q x ≡ Some job → job_of p (number x) ≡ Some job
  of_whole x job is = sym (job_at p x (known p x job is)) ∙ is

  fits : (x t k : ℕ) → x < length tasks → IsFit i (number x) t k → IsFit j x t k
  fits x t k below fit = record {
    qualified = λ s need. let n = ap (λ (y : Task). bit_at y.skills s) (task_at x below) in let h = ap (λ (y : Team). bit_at y.skills s) (team_at k) in h ∙ fit.qualified s (sym n ∙ need);
    in_shift = record {
      comes = rw (task_at x below, team_at k) (let c = fit.in_shift.comes in let s = r.times.shorter (team_of i k).home (task_of i (number x)).place in omega arith);
      returns = rw (task_at x below, team_at k) (let c = fit.in_shift.returns in let s = r.times.shorter (task_of i (number x)).place (team_of i k).home in omega arith);
    };
  }

  job_fits : (x : ℕ) (job : Job) → job_of q x ≡ Some job → IsJob j x job
  job_fits x job is =
      let below = known p x job is in
      let old = legal.feasible.jobs (number x) job (of_whole x job is) in
      record {
        window = record { early = rw (task_at x below) old.window.early; late = rw (task_at x below) old.window.late };
        list = record { rising = old.list.rising; count = old.list.count ∙ ap (λ (y : Task). y.teams) (sym (task_at x below)) };
        known = λ k c. subst (λ (ts : List Team). k < length ts) (sym r.teams) (old.known k c);
        fit = λ k c. fits x job.start k below (old.fit k c);
      }

  does_at : (k x t : ℕ) → Does q k x t → (x < length tasks) × Does p k (number x) t
  does_at k x t (job, is, start, c) = (known p x job is, (job, of_whole x job is, start, c))

  one_number : (x y : ℕ) → x < length tasks → y < length tasks → x ≢ y → number x ≢ number y
  one_number x y a b differ same = by (cases_lt x y)
    where
      by : (x < y) ⊎ (y ≤ x) → ⊥
      by (inl l) = let s = AllPairs-from_increasing tasks r.rising x y 0 l b in omega arith
      by (inr l) = let s = AllPairs-from_increasing tasks r.rising y x 0 (omega arith) a in omega arith

  pub legal_there : ((k : ℕ) → (visits : List Visit) × AreVisitsOf p k visits × IsRoute (root_limits i) k visits) → IsLegal j q
  legal_there routes = record {
    feasible = record {
      whole = length-map tasks (job_of p) ∙ sym (length-map tasks (task_of i)) ∙ ap length (sym r.kept);
      jobs = job_fits;
      apart = λ k x y t u a b differ.
          let c = does_at k x t a in
          let d = does_at k y u b in
          legal.feasible.apart k (number x) (number y) t u c.1 d.1 (one_number x y c.0 d.0 differ);
      follow = λ k x y t u a b l between. follows k x y t u (does_at k x t a) (does_at k y u b) l (routes k);
    };
    frozen = λ x job is.
        let was : job_of (cut_down i.frozen tasks) x ≡ Some job = ap (λ f. job_of f x) (sym r.frozen) ∙ is in
        let below = known i.frozen x job was in
        job_at p x below ∙ legal.frozen (number x) job (sym (job_at i.frozen x below) ∙ was);
  }
    where
      follows : (k x y t u : ℕ) → (x < length tasks) × Does p k (number x) t → (y < length tasks) × Does p k (number y) u → t < u
          → (visits : List Visit) × AreVisitsOf p k visits × IsRoute (root_limits i) k visits → CanFollow j x t y u
      follows k x y t u (a, c) (b, d) l (visits, are, route) =
          rw (task_at x a, task_at y b) (reaches_in i j r.times placed k (visit (number x) t) (visit (number y) u) visits route are.rising ((are.each (number x) t).1 c) ((are.each (number y) u).1 d) l)
