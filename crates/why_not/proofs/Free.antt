-- when enough teams are free, a job may be added
use Rattle.std.proofs.Common.{◌≡◌, ◌≤◌, ◌<◌, ◌+◌, ◌-◌, ◌∷◌, [], ℕ, zero, suc, Bool, true, false, cond, List, length, get_or, map, take, Option, None, Some, arith, refl, sym, subst, ap, ◌∙◌}
use Rattle.std.specs.Prelude.{◌↔◌, Contains, MatchOption, count_by, find, nat_le}
use Rattle.std.specs.List.{filter, range_with_len}
use Rattle.std.proofs.lemmas.Bool.{leb-true, le-leb}
use Rattle.std.proofs.lemmas.List.{get_or-take, length-take-le}
use Rattle.std.proofs.lemmas.List.Sums.{length-filter, sum_by-cons}
use Rattle.crew_terms.specs.Instance.{Instance, task_of}
use Rattle.crew_terms.specs.Plan.{Plan, Job, job_of}
use Rattle.crew_terms.specs.Legal.{IsFeasible, IsLegal, IsPacked}
use Rattle.team_days.specs.Adding.{AreFree, FitsNowhere, IsAddition}
use Rattle.team_days.specs.Free.{IsFreeFor}
use Rattle.team_days.specs.Obstacles.{obstacle_of}
use Rattle.team_days.specs.declared.obstacles.Obstacle.{Obstacle}
use Rattle.team_days.specs.declared.obstacles.Obstacle.TheVariants.{Free, Skill, Shift, Busy}
use Rattle.why_not.specs.Fits.{first_fit, free_count, is_free, obstacles_at, window_minutes}
use Rattle.why_not.proofs.Rising.{no_longer, numbers_from, numbers_to, passing_from, passing_rise, passing_to}

-- what a law says of each team
abbrev pub TellsFree : Type 0
TellsFree = (i : Instance) (p : Plan) (k j t : ℕ) → IsFeasible i p → k < length i.teams → (obstacle_of i p k j t ≡ Free) ↔ IsFreeFor i p k j t

free_is : (o : Obstacle) → is_free o ≡ true → o ≡ Free
free_is Free e = refl
free_is Skill e = cc
free_is Shift e = cc
free_is (Busy h) e = cc

is_free_of : (o : Obstacle) → o ≡ Free → is_free o ≡ true
is_free_of o e = rw e refl

counted : (f : ℕ → Obstacle) (ks : List ℕ) → count_by is_free (map f ks) ≡ length (filter (λ k. is_free (f k)) ks)
counted f ks = over ks ∙ sym (length-filter (λ k. is_free (f k)) ks)
  where
    over : (hs : List ℕ) → count_by is_free (map f hs) ≡ count_by (λ k. is_free (f k)) hs
    over [] = refl
    over (h ∷ hs) =
        sum_by-cons (λ o. cond (is_free o) 1 0) (f h) (map f hs)
        ∙ ap (λ n. cond (is_free (f h)) 1 0 + n) (over hs)
        ∙ sym (sum_by-cons (λ k. cond (is_free (f k)) 1 0) h hs)

module _ (i : Instance) (p : Plan) (j : ℕ) where
  -- the free teams
  abbrev pub free_teams : ℕ → List ℕ
  free_teams t = filter (λ k. is_free (obstacle_of i p k j t)) (range_with_len 0 (length i.teams))

  pub count_is : (t : ℕ) → free_count i p j t ≡ length (free_teams t)
  unfolding obstacles_at
  count_is t = counted (λ k. obstacle_of i p k j t) (range_with_len 0 (length i.teams))

  module _ (feasible : IsFeasible i p) (law : TellsFree) where
    is_listed : (t k : ℕ) → IsFreeFor i p k j t → Contains (free_teams t) k
    is_listed t k free =
        passing_to (λ h. is_free (obstacle_of i p h j t)) (range_with_len 0 (length i.teams)) k (numbers_to 0 (length i.teams) k (omega arith) (let l = free.known in omega arith))
        (is_free_of (obstacle_of i p k j t) ((law i p k j t feasible free.known).1 free))

    listed_is : (t k : ℕ) → Contains (free_teams t) k → IsFreeFor i p k j t
    listed_is t k c =
        let m = passing_from (λ h. is_free (obstacle_of i p h j t)) (range_with_len 0 (length i.teams)) k c in
        let l : k < length i.teams = let n = (numbers_from 0 (length i.teams) k m.0).1 in omega arith in
        (law i p k j t feasible l).0 (free_is (obstacle_of i p k j t) m.1)

    -- a job whose teams are free has no more of them than are free
    pub enough_from : (job : Job) → IsAddition i p j job → AreFree i p j job → (task_of i j).teams ≤ free_count i p j job.start
    enough_from job addition free =
        let long = no_longer (free_teams job.start) job.teams (passing_rise (λ h. is_free (obstacle_of i p h j job.start)) 0 (length i.teams)) addition.list.rising
        (λ k c. is_listed job.start k (free k c)) in
        let count = addition.list.count in
        let e = count_is job.start in
        omega arith

    -- where enough are free, a job may be added
    module _ (t : ℕ) (known : j < length i.tasks) (open_one : job_of p j ≡ None) (early : (task_of i j).earliest ≤ t) (late : t ≤ (task_of i j).latest)
        (enough : (task_of i j).teams ≤ free_count i p j t) where
      few : (task_of i j).teams ≤ length (free_teams t)
      few = let e = count_is t in let l = enough in omega arith

      long : length (take (task_of i j).teams (free_teams t)) ≡ (task_of i j).teams
      long = length-take-le (task_of i j).teams (free_teams t) few

      taken : (x d : ℕ) → x < (task_of i j).teams → get_or (take (task_of i j).teams (free_teams t)) x d ≡ get_or (free_teams t) x d
      taken x d l = get_or-take (task_of i j).teams (free_teams t) x d l

      pub addition : IsAddition i p j (record { start = t; teams = take (task_of i j).teams (free_teams t) })
      addition = record {
        task = known;
        unassigned = open_one;
        window = record { early = early; late = late };
        list = record {
          rising = λ x l.
              let n = long in
              let a = taken x 0 (omega arith) in
              let b = taken (x + 1) 0 (omega arith) in
              let f = few in
              let up = passing_rise (λ h. is_free (obstacle_of i p h j t)) 0 (length i.teams) x (omega arith) in
              omega arith;
          count = long;
        };
      }

      pub all_free : AreFree i p j (record { start = t; teams = take (task_of i j).teams (free_teams t) })
      all_free k (x, l, is) =
          let n = long in
          let f = few in
          let e : get_or (free_teams t) x k ≡ k = sym (taken x k (omega arith)) ∙ is in
          listed_is t k (x, omega arith, e)

-- ---- the first that is found

found_first : (test : ℕ → Bool) (xs : List ℕ) → MatchOption (find test xs) ((x : ℕ) → Contains xs x → test x ≡ false) (λ x. Contains xs x × (test x ≡ true))
found_first test [] = λ x (k, l, is). absurd (omega arith)
found_first test (y ∷ ys) = by (test y) refl (found_first test ys)
  where
    over : (o : Option ℕ) → MatchOption o ((x : ℕ) → Contains ys x → test x ≡ false) (λ x. Contains ys x × (test x ≡ true)) → test y ≡ false
        → MatchOption o ((x : ℕ) → Contains (y ∷ ys) x → test x ≡ false) (λ x. Contains (y ∷ ys) x × (test x ≡ true))
    over None none e = λ x c. of x c
      where
        of : (x : ℕ) → Contains (y ∷ ys) x → test x ≡ false
        of x (zero, l, is) = subst (λ z. test z ≡ false) is e
        of x (suc k, l, is) = none x (k, omega arith, is)
    over (Some x) ((k, l, is), t) e = ((suc k, omega arith, is), t)

    by : (b : Bool) → test y ≡ b → MatchOption (find test ys) ((x : ℕ) → Contains ys x → test x ≡ false) (λ x. Contains ys x × (test x ≡ true))
        → MatchOption (find test (y ∷ ys)) ((x : ℕ) → Contains (y ∷ ys) x → test x ≡ false) (λ x. Contains (y ∷ ys) x × (test x ≡ true))
    by true e more = rw e ((0, omega arith, refl), e)
    by false e more = rw e (over (find test ys) more e)

-- ---- the laws

pub fits_nowhere : (i : Instance) (p : Plan) (j : ℕ) → TellsFree → IsLegal i p → j < length i.tasks → job_of p j ≡ None → (first_fit i p j ≡ None) ↔ FitsNowhere i p j
unfolding first_fit
fits_nowhere i p j law legal known open_one = (to (find test (window_minutes i j)) (found_first test (window_minutes i j)), from (find test (window_minutes i j)) (found_first test (window_minutes i j)))
  where
    test : ℕ → Bool
    test t = nat_le (task_of i j).teams (free_count i p j t)

    to : (o : Option ℕ) → MatchOption o ((x : ℕ) → Contains (window_minutes i j) x → test x ≡ false) (λ x. Contains (window_minutes i j) x × (test x ≡ true)) → o ≡ None → FitsNowhere i p j
    to None none e job more free =
        let early = more.window.early in
        let late = more.window.late in
        let c = numbers_to (task_of i j).earliest ((task_of i j).latest + 1 - (task_of i j).earliest) job.start early (omega arith) in
        let t : test job.start ≡ true = le-leb (task_of i j).teams (free_count i p j job.start) (enough_from i p j legal.feasible law job more free) in
        let f = none job.start c in
        let x : true ≡ false = sym t ∙ f in cc
    to (Some t) at e job more free = absurd (cc)

    from : (o : Option ℕ) → MatchOption o ((x : ℕ) → Contains (window_minutes i j) x → test x ≡ false) (λ x. Contains (window_minutes i j) x × (test x ≡ true)) → FitsNowhere i p j → o ≡ None
    from None none nowhere = refl
    from (Some t) at nowhere =
        let m = numbers_from (task_of i j).earliest ((task_of i j).latest + 1 - (task_of i j).earliest) t at.0 in
        let early = m.0 in
        let below = m.1 in
        let late : t ≤ (task_of i j).latest = omega arith in
        let enough = leb-true (task_of i j).teams (free_count i p j t) at.1 in
        absurd (nowhere _ (addition i p j legal.feasible law t known open_one early late enough) (all_free i p j legal.feasible law t known open_one early late enough))

pub packed : (i : Instance) (p : Plan) → (IsPacked i p ↔ ((j : ℕ) → FitsNowhere i p j))
    → ((j : ℕ) → j < length i.tasks → job_of p j ≡ None → (first_fit i p j ≡ None) ↔ FitsNowhere i p j)
    → IsPacked i p ↔ ((j : ℕ) → j < length i.tasks → job_of p j ≡ None → first_fit i p j ≡ None)
packed i p law each = ((λ is j known none. (each j known none).1 (law.0 is j)), (λ fits. law.1 (λ j job addition. (each j addition.task addition.unassigned).0 (fits j addition.task addition.unassigned) job addition)))
