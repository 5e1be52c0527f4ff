use Rattle.std.proofs.Common.{◌≡◌, take}
use Rattle.master_run.specs.Along.{IsAtOptimum}
use Rattle.master_run.proofs.run.Run.over.Given as goal

-- the first of the legal columns have entered
abbrev pub invariant-loop-id : goal.invariant-loop-id
invariant-loop-id g l = record {
  ids : l.run.ids ≡ take l.id-index l.id-items;
  optimum : IsAtOptimum l.limits.limits (g.C.Columns.columns l.columns) l.run;
  pivots : l.run.pivots ≡ l.pivots;
}
