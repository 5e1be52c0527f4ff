use Rattle.crew_terms.specs.Leaf.{IsOnRequired}
use Rattle.potentials.specs.Prices.{ArePricesOf}
use Rattle.tree_rehearsal.proofs.rest.RestPrices.at.Given as goal

abbrev pub invariant-loop-pair : goal.invariant-loop-pair
invariant-loop-pair l = record {
  prices : ArePricesOf l.limits.limits l.prices;
  required : IsOnRequired l.limits.limits l.prices;
}
