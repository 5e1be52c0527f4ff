use Rattle.std.proofs.Common.{◌≤◌, length}
use Rattle.column_scout.specs.Fresh.{AreFresh}
use Rattle.column_scout.proofs.hand_over.hand_over.Given as goal

abbrev pub invariant-loop-one : goal.invariant-loop-one
invariant-loop-one g l = record {
  fresh : AreFresh l.limits.limits (g.C.Columns.columns l.columns) l.routes.items;
  few : length l.routes.items ≤ l.most;
}
