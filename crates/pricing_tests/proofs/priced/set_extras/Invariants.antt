use Rattle.potentials.specs.Prices.{ArePricesOf}
use Rattle.pricing_tests.proofs.priced.set_extras.Given as goal

abbrev pub invariant-loop-j : goal.invariant-loop-j
invariant-loop-j l = ArePricesOf l.limits.limits l.prices
