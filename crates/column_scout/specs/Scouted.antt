-- prices that a scout has seen
use Rattle.crew_terms.specs.Leaf.{IsOnRequired}
use Rattle.crew_terms.specs.Limits.{Limits}
use Rattle.potentials.specs.Prices.{ArePricesOf}
use Rattle.price_ascent.specs.declared.ascent.Ascended.{Ascended}
use Rattle.search_terms.specs.Proven.{IsProvedCount}

-- prices of the node, 0 on pairs that it doesn't require, with the greatest number of tasks that they prove unassigned
pub record IsSeen (n : Limits) (a : Ascended) : Type 0 where
  pub prices : ArePricesOf n a.prices
  pub required : IsOnRequired n a.prices
  pub count : IsProvedCount n a.prices a.proved
