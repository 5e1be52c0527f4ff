use Rattle.std.proofs.Common.{◌≡◌, ◌<◌}
use Rattle.std.specs.Prelude.{All}
use Rattle.search_terms.specs.Opening.{places}
use Rattle.master_tests.proofs.asked.master_of.Given as goal

abbrev pub invariant-loop-i : goal.invariant-loop-i
invariant-loop-i l = record {
  places : l.master.places ≡ places l.limits.limits;
  columns : All (λ id. id < l.i) l.master.columns;
}
