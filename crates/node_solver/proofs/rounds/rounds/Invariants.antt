use Rattle.std.proofs.Common.{◌≡◌}
use Rattle.label_pricing.specs.Pricing.{HasRoom}
use Rattle.master_run.specs.Along.{IsOver}
use Rattle.search_terms.specs.Search.{Extends}
use Rattle.node_solver.proofs.rounds.rounds.Given as goal

-- the run is over the columns, which have only grown
abbrev pub invariant-again : goal.invariant-again
invariant-again g l = record {
  over : IsOver l.limits.limits (g.C.Columns.columns l.columns) l.run;
  pivots : l.run.pivots ≡ l.initial.run.pivots;
  extends : Extends l.limits.limits (g.C.Columns.columns l.initial.columns) (g.C.Columns.columns l.columns);
  room : HasRoom l.limits.limits.instance l.pricer;
}

-- a round that goes on has made a pivot
abbrev pub decreases-again : goal.decreases-again
decreases-again g l = l.run.left
