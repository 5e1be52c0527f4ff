-- the minutes at which legal plans begin their jobs
use Rattle.std.proofs.Common.{◌≡◌, ◌≤◌, ◌<◌, ◌+◌, ◌-◌, ℕ, Bool, true, false, cond, length, get_or, refl, ap, sym, subst, ◌∙◌, arith, eqb, leb, ltb, ◌⊎◌, inl, inr, Some}
use Rattle.std.specs.Prelude.{ℤ, pos, ◌*ℤ◌, ◌≤ℤ◌, Contains, count_by}
use Rattle.std.specs.List.{list_any, range_with_len}
use Rattle.std.proofs.lemmas.Int.{ints}
use Rattle.std.proofs.lemmas.Bool.{cases_Bool, le-leb, lt-ltb, leb-true, ltb-true, and_from, and_parts}
use Rattle.std.proofs.lemmas.List.FromFn.{get_or-range_with_len, length-range_with_len}
use Rattle.crew_terms.specs.Instance.{Instance, task_of}
use Rattle.crew_terms.specs.Legal.{IsLegal}
use Rattle.crew_terms.specs.Limits.{Limits, IsPermittedVisit, IsWithin, root_limits, tasks_in}
use Rattle.crew_terms.specs.Listed.{keeps}
use Rattle.crew_terms.specs.Minutes.{IsMinuteOf, first_minute, minute_count}
use Rattle.crew_terms.specs.Nodes.{job_known}
use Rattle.crew_terms.specs.Plan.{Plan, Job, job_of}
use Rattle.crew_terms.specs.Ranges.{numbered}
use Rattle.crew_terms.specs.Total.{total}
use Rattle.crew_terms.specs.Totals.{total-le, total-same}
use Rattle.crew_laws.specs.Earnings.{job_earns, team_earns}
use Rattle.crew_laws.specs.Listed.{contains_any}
use Rattle.squeeze_terms.specs.Possible.{able_count, is_possible, may_begin, possible_minutes}
use Rattle.squeeze_laws.proofs.Counted.{total-count}

-- the test tells the minutes of a team
pub test_from_minute : (n : Limits) (k j t : ℕ) → IsMinuteOf n k j t → may_begin n k j t ≡ true
test_from_minute n k j t is = and_from (leb (first_minute n k j) t) (ltb t (first_minute n k j + minute_count n k j)) (le-leb (first_minute n k j) t is.from) (lt-ltb t (first_minute n k j + minute_count n k j) is.until)

pub minute_from_test : (n : Limits) (k j t : ℕ) → j < tasks_in n → may_begin n k j t ≡ true → IsMinuteOf n k j t
minute_from_test n k j t known e =
    let both = and_parts (leb (first_minute n k j) t) (ltb t (first_minute n k j + minute_count n k j)) e in
    record { known = known; from = leb-true (first_minute n k j) t both.0; until = ltb-true t (first_minute n k j + minute_count n k j) both.1 }

-- a number of a range stands in it
in_range : (a n t : ℕ) → a ≤ t → t < a + n → Contains (range_with_len a n) t
in_range a n t from until = (t - a, (let m = length-range_with_len a n in omega arith), get_or-range_with_len a n (t - a) t (omega arith) ∙ omega arith)

-- the teams of the task, counted one by one
abbrev pub ones : ℕ → ℕ → ℕ → ℤ
ones k j t = pos 1

module _ (i : Instance) (p : Plan) (legal : IsLegal i p) (within : IsWithin (root_limits i) p) (j : ℕ) (job : Job) (is : job_of p j ≡ Some job) where
  known : j < length i.tasks
  known = let l = job_known p j job is in let w = legal.feasible.whole in omega arith

  -- each team of the job has the visit permitted
  pub permitted : (k : ℕ) → Contains job.teams k → IsPermittedVisit (root_limits i) k j job.start
  permitted k c =
      let fit = (legal.feasible.jobs j job is).fit k c in
      record {
        known = known;
        qualified = fit.qualified;
        allowed = within.forbidden k j job.start (job, is, refl, c);
        early = within.early j job is;
        late = within.late j job is;
        in_shift = fit.in_shift;
      }

  -- so enough teams may begin it then
  pub enough : ((k : ℕ) → IsPermittedVisit (root_limits i) k j job.start → may_begin (root_limits i) k j job.start ≡ true)
      → job_earns (root_limits i) ones j (Some job) ≡ pos (task_of i j).teams *ℤ pos 1
      → (task_of i j).teams ≤ able_count (root_limits i) j job.start
  enough tells earns =
      let test = λ (k : ℕ). may_begin (root_limits i) k j job.start in
      let m = length i.teams in
      let most = total-le m (λ k. team_earns ones k j (Some job)) (λ k. cond (test k) (pos 1) (pos 0)) (λ k b. one k (cases_Bool (list_any (λ h. eqb h k) job.teams))) in
      let same = total-same m (λ k. cond (test k) (pos 1) (pos 0)) (λ k. cond (test (get_or (range_with_len 0 m) k 0)) (pos 1) (pos 0)) (λ k b. ap (λ h. cond (test h) (pos 1) (pos 0)) (sym (numbered m k b))) in
      let count = subst (λ l. total l (λ k. cond (test (get_or (range_with_len 0 m) k 0)) (pos 1) (pos 0)) ≡ pos (count_by test (range_with_len 0 m)) *ℤ pos 1) (length-range_with_len 0 m) (total-count test 0 (pos 1) (range_with_len 0 m)) in
      omega (arith, ints)
    where
      one : (k : ℕ) → (list_any (λ h. eqb h k) job.teams ≡ true) ⊎ (list_any (λ h. eqb h k) job.teams ≡ false)
          → cond (list_any (λ h. eqb h k) job.teams) (pos 1) (pos 0) ≤ℤ cond (may_begin (root_limits i) k j job.start) (pos 1) (pos 0)
      one k (inl e) = rw (e, tells k (permitted k (contains_any job.teams k e))) (omega (arith, ints))
      one k (inr e) = rw e (at (may_begin (root_limits i) k j job.start))
        where
          at : (b : Bool) → pos 0 ≤ℤ cond b (pos 1) (pos 0)
          at true = omega (arith, ints)
          at false = omega (arith, ints)

  -- and its minute is possible
  pub begins_possibly : (task_of i j).teams ≤ able_count (root_limits i) j job.start → Contains (possible_minutes i j) job.start
  begins_possibly many =
      let w = (legal.feasible.jobs j job is).window in
      let early = w.early in
      let late = w.late in
      keeps (is_possible (root_limits i) j) (range_with_len (task_of i j).earliest ((task_of i j).latest + 1 - (task_of i j).earliest)) job.start
      (in_range (task_of i j).earliest ((task_of i j).latest + 1 - (task_of i j).earliest) job.start early (omega arith))
      (le-leb (task_of i j).teams (able_count (root_limits i) j job.start) many)
