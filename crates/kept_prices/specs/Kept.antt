-- what the fields stand for
use Rattle.std.specs.Prelude.{length}
use Rattle.crew_terms.specs.Leaf.{Prices}
use Rattle.kept_prices.specs.Rows.{AreRows, rows_in}
use Rattle.kept_prices.specs.declared.kept.KeptPrices.TheInside.{Inside}
use Rattle.kept_prices.specs.declared.kept.Rows.{Rows}
use Rattle.potentials.specs.Prices.{ArePrices}

-- the prices of the rows
abbrev pub prices_in : Rows → Prices
prices_in r = record { pi = r.tasks.items; rho = rows_in (length r.tasks.items) r.teams.items }

abbrev pub kept_prices : Inside → Prices
kept_prices a = prices_in a.rows.value

-- they are prices, and each row is left out or whole
pub record IsKept (a : Inside) : Type 0 where
  pub prices : ArePrices (kept_prices a)
  pub rows : AreRows (length a.rows.value.tasks.items) a.rows.value.teams.items
