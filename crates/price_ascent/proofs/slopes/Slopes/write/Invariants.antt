use Rattle.crew_terms.specs.Leaf.{IsOnRequired}
use Rattle.potentials.specs.Prices.{ArePricesOf}
use Rattle.price_ascent.proofs.slopes.Slopes.write.Given as goal

abbrev pub invariant-loop-pair : goal.invariant-loop-pair
invariant-loop-pair l = record {
  prices : ArePricesOf l.limits.limits l.prices;
  required : IsOnRequired l.limits.limits l.prices;
}
