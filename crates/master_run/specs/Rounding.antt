-- prices of a run's optimum, as they are rounded one after the other
use Rattle.std.specs.Prelude.{◌≡◌, ◌<◌, ℕ, ℤ}
use Rattle.crew_terms.specs.Leaf.{Prices, pi_of, rho_of}
use Rattle.crew_terms.specs.Limits.{Limits}
use Rattle.search_terms.specs.Earned.{rounded_dual}
use Rattle.search_terms.specs.Opening.{OpensWith}
use Rattle.search_terms.specs.Rows.{Rows}
use Rattle.search_terms.specs.declared.Place.{Place}
use Rattle.search_terms.specs.declared.Place.TheVariants.{Shortage, Missed}

-- the dual number of the opening row that opens with p, rounded
abbrev pub IsRoundedAt : Limits → Rows → Place → ℤ → Type 0
IsRoundedAt n t p v = (h : ℕ) → OpensWith n h p → v ≡ rounded_dual n t h

-- the prices of the first m tasks are rounded
abbrev pub AreTasksRounded : Limits → Rows → Prices → ℕ → Type 0
AreTasksRounded n t p m = (j : ℕ) → j < m → IsRoundedAt n t (Shortage j) (pi_of p j)

-- the extra of the pair is rounded
abbrev pub IsPairRounded : Limits → Rows → Prices → ℕ → ℕ → Type 0
IsPairRounded n t p k j = IsRoundedAt n t (Missed k j) (rho_of p k j)

-- extras that were rounded are so still, and the prices of tasks stay
pub record KeepsRounded (n : Limits) (t : Rows) (old new : Prices) : Type 0 where
  pub tasks : new.pi ≡ old.pi
  pub pairs : (k j : ℕ) → IsPairRounded n t old k j → IsPairRounded n t new k j
