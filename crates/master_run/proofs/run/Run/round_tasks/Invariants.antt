use Rattle.crew_terms.specs.Leaf.{IsOnRequired}
use Rattle.potentials.specs.Prices.{ArePricesOf}
use Rattle.master_run.specs.Rounding.{AreTasksRounded}
use Rattle.master_run.proofs.run.Run.round_tasks.Given as goal

abbrev pub invariant-loop-j : goal.invariant-loop-j
invariant-loop-j l = record {
  shape : ArePricesOf l.limits.limits l.prices;
  required : IsOnRequired l.limits.limits l.prices;
  rounded : AreTasksRounded l.limits.limits l.self.master.rows l.prices l.j;
}
