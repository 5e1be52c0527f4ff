use Rattle.crew_terms.specs.Leaf.{IsOnRequired}
use Rattle.potentials.specs.Prices.{ArePricesOf}
use Rattle.tree_rehearsal.proofs.mixed.mix_tasks.Given as goal

abbrev pub invariant-loop-task : goal.invariant-loop-task
invariant-loop-task l = record {
  prices : ArePricesOf l.limits.limits l.prices;
  required : IsOnRequired l.limits.limits l.prices;
}
