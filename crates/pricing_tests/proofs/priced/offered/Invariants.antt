use Rattle.potentials.specs.Prices.{ArePricesOf}
use Rattle.pricing_tests.proofs.priced.offered.Given as goal

abbrev pub invariant-loop-k : goal.invariant-loop-k
invariant-loop-k l = ArePricesOf l.limits.limits l.prices
