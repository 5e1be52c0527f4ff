use Rattle.potentials.specs.Prices.{ArePricesOf}
use Rattle.closing_tests.proofs.splits.prices_of.Given as goal

abbrev pub invariant-loop-j : goal.invariant-loop-j
invariant-loop-j l = ArePricesOf l.limits.limits l.prices
