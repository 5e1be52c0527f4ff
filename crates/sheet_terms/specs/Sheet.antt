-- sheets of minute prices, and when they are good
use Rattle.std.specs.Prelude.{◌≤◌, ℕ, ℤ, List, length, map, slice_index_or}
use Rattle.crew_terms.specs.Instance.{Instance}
use Rattle.crew_terms.specs.Rules.{IsInstance}
use Rattle.crew_terms.specs.Limits.{root_limits}
use Rattle.crew_terms.specs.Leaf.{Proves}
use Rattle.crew_terms.specs.declared.TheConstants.{MOST_NODES}
use Rattle.dossier_terms.specs.Dossier.{Potentials, Tables, no_potentials, phi_in}
use Rattle.squeeze_terms.specs.MinutePrices.{MinutePrices}
use Rattle.squeeze_terms.specs.Bound.{AreValidMinutePrices, minute_bound}

-- what a sheet holds: the instance with the node budget of its dossier, the bound, which the prices prove, and for each team
-- its worth and potentials at the root
pub record Sheet : Type 0 where
  pub instance : Instance
  pub budget : ℕ
  pub bound : ℕ
  pub prices : MinutePrices
  pub tables : List Potentials

-- the worths that the tables write
abbrev pub worths_in : List Potentials → List ℤ
worths_in tables = map (λ (t : Potentials). t.worth) tables

-- the potentials that the sheet writes, by team, task and minute
abbrev pub phi_of : Sheet → ℕ → ℕ → ℕ → ℤ
phi_of s k = phi_in (root_limits s.instance) k (slice_index_or s.tables k no_potentials)

-- the rules of a sheet
pub record IsGoodSheet (s : Sheet) : Type 0 where
  pub instance : IsInstance s.instance
  pub budget : s.budget ≤ MOST_NODES
  pub bound : s.bound ≤ length s.instance.tasks
  pub tables : Tables (root_limits s.instance) 0 s.tables
  pub valid : AreValidMinutePrices s.instance s.prices (worths_in s.tables) (phi_of s)
  pub proved : Proves (minute_bound s.instance s.prices (worths_in s.tables)) s.bound
