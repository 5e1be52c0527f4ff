-- what the limits of a node say of one task and of one pair
use Rattle.std.specs.Prelude.{◌≡◌, ◌≢◌, ◌≤◌, ◌<◌, ℕ, Some}
use Rattle.crew_terms.specs.Limits.{Limits, window_of, pair_of, teams_in}
use Rattle.crew_terms.specs.Plan.{Plan, Job, job_of, Does}
use Rattle.crew_terms.specs.declared.Pair.TheVariants.{Forbidden, Required}

-- task j begins in its window, if it is assigned
pub record BeginsWithin (n : Limits) (p : Plan) (j : ℕ) : Type 0 where
  pub early : (job : Job) → job_of p j ≡ Some job → (window_of n j).0 ≤ job.start
  pub late : (job : Job) → job_of p j ≡ Some job → job.start ≤ (window_of n j).1

-- team k doesn't do task j where the pair is forbidden, and does it where the pair is required
pub record KeepsPair (n : Limits) (p : Plan) (k j : ℕ) : Type 0 where
  pub forbidden : (t : ℕ) → Does p k j t → pair_of n k j ≢ Forbidden
  pub required : pair_of n k j ≡ Required → (t : ℕ) × Does p k j t

-- the limits are kept at task j
pub record KeepsTask (n : Limits) (p : Plan) (j : ℕ) : Type 0 where
  pub window : BeginsWithin n p j
  pub pairs : (k : ℕ) → k < teams_in n → KeepsPair n p k j
