-- whether a team can take a task into its day
use Rattle.std.specs.Prelude.{◌≤◌, ◌<◌, ◌⊎◌, ℕ, length}
use Rattle.crew_terms.specs.Instance.{Instance, CanFollow}
use Rattle.crew_terms.specs.Legal.{IsFit}
use Rattle.crew_terms.specs.Plan.{Plan, Does}

-- of what team k begins before minute t, task h at minute s is the last
pub record IsLastBefore (p : Plan) (k t h s : ℕ) : Type 0 where
  pub does : Does p k h s
  pub before : s < t
  pub last : (g r : ℕ) → Does p k g r → (r ≤ s) ⊎ (t ≤ r)

-- of what team k begins after minute t, task h at minute u is the first
pub record IsFirstAfter (p : Plan) (k t h u : ℕ) : Type 0 where
  pub does : Does p k h u
  pub after : t < u
  pub first : (g r : ℕ) → Does p k g r → (r ≤ t) ⊎ (u ≤ r)

-- team k can take task j at minute t into its day: it can do the task, begins nothing then, comes in time from what it does before, and in time to what it does after
pub record IsFreeFor (i : Instance) (p : Plan) (k j t : ℕ) : Type 0 where
  pub known : k < length i.teams
  pub fit : IsFit i j t k
  pub idle : (h : ℕ) → Does p k h t → ⊥
  pub comes : (h s : ℕ) → IsLastBefore p k t h s → CanFollow i h s j t
  pub goes_on : (h u : ℕ) → IsFirstAfter p k t h u → CanFollow i j t h u
