-- what a sheet is written from
use Rattle.std.specs.Prelude.{◌≤◌, ℕ, ℤ, List, length}
use Rattle.crew_terms.specs.Instance.{Instance}
use Rattle.crew_terms.specs.Leaf.{Proves}
use Rattle.crew_terms.specs.declared.TheConstants.{MOST_NODES}
use Rattle.crew_terms.specs.declared.Visit.{Visit}
use Rattle.squeeze_terms.specs.Bound.{IsMinuteBound}
use Rattle.squeeze_terms.specs.MinutePrices.{MinutePrices}
use Rattle.squeeze_terms.specs.Run.{prices_after}
use Rattle.sheet_write.specs.declared.sheet.SheetParts.{SheetParts}

-- the instance with the node budget of its dossier, the number that the prices are to prove, and the prices
pub record SheetGiven : Type 0 where
  pub instance : Instance
  pub budget : ℕ
  pub bound : ℕ
  pub prices : MinutePrices

-- the parts as they are
abbrev pub given : SheetParts → SheetGiven
given parts = record { instance = parts.instance.now; budget = parts.nodes; bound = parts.bound; prices = parts.prices.now }

-- those of what a price run hands out: the prices after so many steps with the routes of the trace, and the number
abbrev pub squeezed : Instance → ℕ → ℕ → ℕ → List (List (List Visit)) → SheetGiven
squeezed i nodes best l trace = record { instance = i; budget = nodes; bound = l; prices = prices_after i trace best }

-- the numbers lie in their ranges, and the bound of the prices proves the number
pub record IsProved (g : SheetGiven) : Type 0 where
  pub budget : g.budget ≤ MOST_NODES
  pub most : g.bound ≤ length g.instance.tasks
  pub value : ℤ
  pub is : IsMinuteBound g.instance g.prices value
  pub proves : Proves value g.bound
