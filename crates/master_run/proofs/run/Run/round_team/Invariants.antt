use Rattle.std.proofs.Common.{◌<◌, ℕ}
use Rattle.crew_terms.specs.Leaf.{IsOnRequired}
use Rattle.potentials.specs.Prices.{ArePricesOf}
use Rattle.master_run.specs.Rounding.{IsPairRounded, KeepsRounded}
use Rattle.master_run.proofs.run.Run.round_team.Given as goal

abbrev pub invariant-loop-j : goal.invariant-loop-j
invariant-loop-j l = record {
  shape : ArePricesOf l.limits.limits l.prices;
  required : IsOnRequired l.limits.limits l.prices;
  here : (j : ℕ) → j < l.j → IsPairRounded l.limits.limits l.self.master.rows l.prices l.k j;
  keeps : KeepsRounded l.limits.limits l.self.master.rows l.initial.prices l.prices;
}
