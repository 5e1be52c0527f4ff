use Rattle.potentials.specs.Prices.{ArePricesOf}
use Rattle.tree_rehearsal.proofs.solved.search.Given as goal

abbrev pub invariant-loop : goal.invariant-loop
invariant-loop l = ArePricesOf l.limits.limits l.best.prices
