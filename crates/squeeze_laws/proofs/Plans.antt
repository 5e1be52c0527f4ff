-- what minute prices bound
use Rattle.std.proofs.Common.{◌≡◌, ◌≤◌, ℕ, zero, suc, cond, List, length, refl, subst, arith, Option, None, Some}
use Rattle.std.specs.Prelude.{ℤ, pos, ◌+ℤ◌, ◌*ℤ◌, ◌≤ℤ◌, Contains, is_none}
use Rattle.std.proofs.lemmas.Int.{ints}
use Rattle.crew_terms.specs.Instance.{Instance}
use Rattle.crew_terms.specs.Leaf.{Proves, worth_of}
use Rattle.crew_terms.specs.Limits.{root_limits}
use Rattle.crew_terms.specs.Plan.{Plan, Job, job_of, unassigned_count}
use Rattle.crew_terms.specs.Total.{total}
use Rattle.crew_terms.specs.Totals.{total-le, total-plus, total-zero}
use Rattle.crew_terms.specs.declared.TheConstants.{D}
use Rattle.crew_laws.specs.Earnings.{job_earns, plan_earns}
use Rattle.squeeze_terms.specs.Bound.{minute_bound, minute_term, teams_price}
use Rattle.squeeze_terms.specs.MinutePrices.{MinutePrices, minute_price}
use Rattle.squeeze_terms.specs.Possible.{possible_minutes}
use Rattle.squeeze_laws.proofs.Counted.{total-count}
use Rattle.squeeze_laws.proofs.Least.{least_below, least_of_each}

module _ (i : Instance) (p : Plan) (prices : MinutePrices) where
  -- what a visit earns, whichever team makes it
  abbrev pub earns : ℕ → ℕ → ℕ → ℤ
  earns k j t = minute_price i prices j t

  module _ (possible : (j : ℕ) (job : Job) → job_of p j ≡ Some job → Contains (possible_minutes i j) job.start)
      (alike : (j : ℕ) (job : Job) → job_of p j ≡ Some job → job_earns (root_limits i) earns j (Some job) ≡ teams_price i prices j job.start) where
    -- the term of a task is at most what its teams earn, and one task where it is unassigned
    term_le : (j : ℕ) (o : Option Job) → job_of p j ≡ o → minute_term i prices j ≤ℤ (job_earns (root_limits i) earns j o +ℤ cond (is_none o) (pos D) (pos 0))
    term_le j None e =
        let a = total-zero (length i.teams) (λ k. pos 0) (λ k b. refl) in
        let b = least_below (teams_price i prices j) (pos D) (possible_minutes i j) in
        omega (arith, ints)
    term_le j (Some job) e =
        let a = alike j job e in
        let b = least_of_each (teams_price i prices j) (pos D) (possible_minutes i j) job.start (possible j job e) in
        omega (arith, ints)

    pub bound_le : (worths : List ℤ) → plan_earns (root_limits i) earns p ≤ℤ total (length i.teams) (worth_of worths) → length p ≡ length i.tasks
        → minute_bound i prices worths ≤ℤ (pos (unassigned_count p) *ℤ pos D)
    bound_le worths most whole =
        let n = length i.tasks in
        let each = total-le n (minute_term i prices) (λ j. job_earns (root_limits i) earns j (job_of p j) +ℤ cond (is_none (job_of p j)) (pos D) (pos 0)) (λ j b. term_le j (job_of p j) refl) in
        let plus = total-plus n (λ j. job_earns (root_limits i) earns j (job_of p j)) (λ j. cond (is_none (job_of p j)) (pos D) (pos 0)) in
        let open_tasks = subst (λ l. total l (λ j. cond (is_none (job_of p j)) (pos D) (pos 0)) ≡ pos (unassigned_count p) *ℤ pos D) whole (total-count is_none None (pos D) p) in
        omega (arith, ints)

-- so no plan leaves fewer than what is proved
pub proved_le : (bound : ℤ) (open_count l : ℕ) → bound ≤ℤ (pos open_count *ℤ pos D) → Proves bound l → l ≤ open_count
proved_le bound open_count zero most proves = omega arith
proved_le bound open_count (suc l) most proves = omega (arith, ints)
