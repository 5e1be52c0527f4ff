use Rattle.crew_terms.specs.Leaf.{IsOnRequired}
use Rattle.potentials.specs.Prices.{ArePricesOf}
use Rattle.tree_rehearsal.proofs.mixed.mix.Given as goal

abbrev pub invariant-loop-at : goal.invariant-loop-at
invariant-loop-at l = record {
  prices : ArePricesOf l.limits.limits l.prices;
  required : IsOnRequired l.limits.limits l.prices;
}
