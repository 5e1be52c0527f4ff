-- nodes in which nothing is left to be split
use Rattle.std.specs.Prelude.{◌≡◌, ◌<◌, ℕ}
use Rattle.crew_terms.specs.Limits.{Limits, IsPermittedVisit, tasks_in, window_of}
use Rattle.crew_terms.specs.Tree.{IsFreePair}

-- team k may begin task j at some minute
abbrev pub MayBegin : Limits → ℕ → ℕ → Type 0
MayBegin n k j = (t : ℕ) × IsPermittedVisit n k j t

-- every window is one minute, and no team of a free pair may begin its task
pub record IsDecided (n : Limits) : Type 0 where
  pub windows : (j : ℕ) → j < tasks_in n → (window_of n j).0 ≡ (window_of n j).1
  pub pairs : (k j : ℕ) → IsFreePair n k j → MayBegin n k j → ⊥
