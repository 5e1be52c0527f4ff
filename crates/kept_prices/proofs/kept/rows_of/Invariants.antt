use Rattle.std.proofs.Common.{◌≡◌, take}
use Rattle.crew_terms.specs.Limits.{tasks_in}
use Rattle.kept_prices.specs.Rows.{AreRows, rows_in}
use Rattle.kept_prices.proofs.kept.rows_of.Given as goal

abbrev pub invariant-loop-k : goal.invariant-loop-k
invariant-loop-k l = record {
  rows : rows_in (tasks_in l.limits.limits) l.rows.items ≡ take l.k l.prices.rho;
  are : AreRows (tasks_in l.limits.limits) l.rows.items;
}
