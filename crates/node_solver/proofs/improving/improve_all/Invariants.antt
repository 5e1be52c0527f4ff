use Rattle.std.proofs.Common.{◌≡◌, ◌≤◌}
use Rattle.frac_master.specs.Adding.{HaveSameDuals}
use Rattle.master_run.specs.Along.{IsOver}
use Rattle.search_terms.specs.Search.{Extends}
use Rattle.node_solver.specs.Meeting.{AreMet}
use Rattle.node_solver.proofs.improving.improve_all.Given as goal

-- the first teams earn their worths, and without a pivot the duals are as before
abbrev pub invariant-loop-k : goal.invariant-loop-k
invariant-loop-k g l = record {
  over : IsOver l.limits.limits (g.C.Columns.columns l.columns) l.run;
  met : AreMet l.limits.limits (g.C.Columns.columns l.columns) l.prices l.worths l.k;
  pivots : l.run.pivots ≡ l.initial.run.pivots;
  left : l.run.left ≤ l.initial.run.left;
  duals : l.run.left ≡ l.initial.run.left → HaveSameDuals l.initial.run.master l.run.master;
  extends : Extends l.limits.limits (g.C.Columns.columns l.initial.columns) (g.C.Columns.columns l.columns);
  room : l.pricer.places ≡ l.initial.pricer.places;
}
