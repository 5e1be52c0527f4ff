-- what a plan earns is at most the worths of its teams
use Rattle.std.proofs.Common.{◌≡◌, ◌<◌, ℕ, cond, refl, arith, Option, None, Some}
use Rattle.std.specs.Prelude.{ℤ, pos, ◌≤ℤ◌}
use Rattle.std.proofs.lemmas.Int.{ints}
use Rattle.crew_terms.specs.Plan.{Plan, Job, job_of}
use Rattle.crew_terms.specs.Legal.{IsLegal}
use Rattle.crew_terms.specs.Limits.{Limits, IsWithin, tasks_in, teams_in}
use Rattle.crew_terms.specs.Leaf.{HoldsLocally}
use Rattle.crew_terms.specs.Total.{total}
use Rattle.crew_terms.specs.Totals.{total-same, total-le, total-swap}
use Rattle.crew_laws.specs.Earnings.{team_earns, job_earns, plan_earns}
use Rattle.crew_laws.proofs.Serves.{has_team, start_of}
use Rattle.crew_laws.proofs.Law.{gain, gain_le_worth}

module _ (n : Limits) (p : Plan) (w : ℕ → ℕ → ℕ → ℤ) where
  team_gains : (k j : ℕ) (o : Option Job) → team_earns w k j o ≡ cond (has_team o k) (w k j (start_of o)) (pos 0)
  team_gains k j None = refl
  team_gains k j (Some job) = refl

  pub plan_gains : plan_earns n w p ≡ total (tasks_in n) (λ j. total (teams_in n) (λ k. gain p (w k) k j))
  plan_gains =
      total-same (tasks_in n) (λ j. job_earns n w j (job_of p j)) (λ j. total (teams_in n) (λ k. gain p (w k) k j))
      (λ j below. total-same (teams_in n) (λ k. team_earns w k j (job_of p j)) (λ k. gain p (w k) k j) (λ k b. team_gains k j (job_of p j)))

  pub plan_le_worths : (phi : ℕ → ℕ → ℕ → ℤ) (worth : ℕ → ℤ) → IsLegal n.instance p → IsWithin n p
      → ((k : ℕ) → k < teams_in n → HoldsLocally n k (w k) (phi k) (worth k)) → plan_earns n w p ≤ℤ total (teams_in n) worth
  plan_le_worths phi worth legal within holds =
      let gains = plan_gains in
      let swapped = total-swap (tasks_in n) (teams_in n) (λ j k. gain p (w k) k j) in
      let most = total-le (teams_in n) (λ k. total (tasks_in n) (gain p (w k) k)) worth
      (λ k b. gain_le_worth n p (w k) (phi k) (worth k) k legal within (holds k b)) in
      omega (arith, ints)
