use Rattle.crew_terms.specs.Leaf.{IsOnRequired}
use Rattle.potentials.specs.Prices.{ArePricesOf}
use Rattle.pricing_tests.proofs.priced.prices_of.Given as goal

abbrev pub invariant-loop-j : goal.invariant-loop-j
invariant-loop-j l = record {
  prices : ArePricesOf l.limits.limits l.prices;
  required : IsOnRequired l.limits.limits l.prices;
}
