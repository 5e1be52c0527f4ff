-- the prices that a reader keeps
use Rattle.std.specs.Prelude.{◌≡◌, ◌≢◌, ◌<◌, ℕ, ℤ, Bool, List, length, All}
use Rattle.crew_terms.specs.Limits.{Limits, is_required, pair_of, tasks_in, teams_in}
use Rattle.crew_terms.specs.Minutes.{required_teams}
use Rattle.dossier_terms.specs.Dossier.{beside}
use Rattle.crew_terms.specs.Leaf.{Prices, rho_of}
use Rattle.potentials.specs.Prices.{ArePricesOf}

-- a price for each task of the node, and for each team a row with one for each task
pub record ArePricesIn (n : Limits) (p : Prices) : Type 0 where
  pub prices : ArePricesOf n p
  pub columns : All (λ row. length row ≡ tasks_in n) p.rho

-- only the pairs of task j may have other prices than before
pub record SamePairsBut (j : ℕ) (old new : Prices) : Type 0 where
  pub tasks : new.pi ≡ old.pi
  pub others : (k h : ℕ) → h ≢ j → rho_of new k h ≡ rho_of old k h

-- the node requires that team k does task j
abbrev pub requires_pair : Limits → ℕ → ℕ → Bool
requires_pair n k j = is_required (pair_of n k j)

-- the required pairs of task j have the given prices, by team, and its others what they had
abbrev pub ArePairsGiven : Limits → ℕ → List ℤ → Prices → Prices → Type 0
ArePairsGiven n j given old new = (k : ℕ) → k < teams_in n
    → rho_of new k j ≡ beside (required_teams n j) given k (rho_of old k j)
