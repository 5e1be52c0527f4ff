use Rattle.std.proofs.Common.{◌<◌, ℕ}
use Rattle.crew_terms.specs.Leaf.{IsOnRequired}
use Rattle.crew_terms.specs.Limits.{tasks_in}
use Rattle.potentials.specs.Prices.{ArePricesOf}
use Rattle.master_run.specs.Rounding.{IsPairRounded, KeepsRounded}
use Rattle.master_run.proofs.run.Run.round_teams.Given as goal

abbrev pub invariant-loop-k : goal.invariant-loop-k
invariant-loop-k l = record {
  shape : ArePricesOf l.limits.limits l.prices;
  required : IsOnRequired l.limits.limits l.prices;
  here : (k j : ℕ) → k < l.k → j < tasks_in l.limits.limits → IsPairRounded l.limits.limits l.self.master.rows l.prices k j;
  keeps : KeepsRounded l.limits.limits l.self.master.rows l.initial.prices l.prices;
}
