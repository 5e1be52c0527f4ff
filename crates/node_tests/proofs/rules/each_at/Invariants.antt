use Rattle.potentials.specs.Prices.{ArePricesOf}
use Rattle.node_tests.proofs.rules.each_at.Given as goal

abbrev pub invariant-loop-i : goal.invariant-loop-i
invariant-loop-i l = ArePricesOf l.limits.limits l.prices
