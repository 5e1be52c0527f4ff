-- what holds of a sheet that is read
use Rattle.crew_terms.specs.Leaf.{Proves}
use Rattle.squeeze_terms.specs.Bound.{AreValidMinutePrices, minute_bound}
use Rattle.sheet_terms.specs.Sheet.{Sheet, phi_of, worths_in}

-- its prices are valid with its worths and potentials, and prove its bound
pub record Holds (s : Sheet) : Type 0 where
  pub valid : AreValidMinutePrices s.instance s.prices (worths_in s.tables) (phi_of s)
  pub proved : Proves (minute_bound s.instance s.prices (worths_in s.tables)) s.bound
