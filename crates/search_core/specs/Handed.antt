-- prices that are handed on
use Rattle.std.specs.Prelude.{Option, None, Some}
use Rattle.crew_terms.specs.Leaf.{Prices}
use Rattle.crew_terms.specs.Limits.{Limits}
use Rattle.crew_terms.specs.Tree.{child}
use Rattle.crew_terms.specs.declared.Choice.{Choice}
use Rattle.crew_terms.specs.declared.Side.TheVariants.{First, Second}
use Rattle.search_core.specs.declared.handing.Handed.{Handed}
use Rattle.search_tree.specs.States.{DecidesProved}
use Rattle.potentials.specs.Prices.{ArePricesOf}
use Rattle.search_terms.specs.BestFirst.{IsBoundIn}
use Rattle.search_terms.specs.Search.{IsHandedOn}

-- the prices, or the node's own
abbrev pub prices_or : Prices → Option Prices → Prices
prices_or own None = own
prices_or own (Some prices) = prices

-- what is handed on proves in the node what the found prices and the node's own prove, and the bounds are those that it gives
-- in the children, and decide what it proves there
pub record IsHanded (n : Limits) (choice : Choice) (own found : Prices) (handed : Handed) : Type 0 where
  pub on : IsHandedOn n own found (prices_or own handed.prices)
  pub shape : ArePricesOf n (prices_or own handed.prices)
  pub low : IsBoundIn (child n choice First) (prices_or own handed.prices) handed.bounds.0
  pub high : IsBoundIn (child n choice Second) (prices_or own handed.prices) handed.bounds.1
  pub first : DecidesProved (child n choice First) (prices_or own handed.prices) handed.bounds.0
  pub second : DecidesProved (child n choice Second) (prices_or own handed.prices) handed.bounds.1
