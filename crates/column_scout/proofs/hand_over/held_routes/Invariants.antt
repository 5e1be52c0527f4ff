use Rattle.std.proofs.Common.{◌≡◌, take}
use Rattle.column_scout.proofs.hand_over.held_routes.Given as goal

abbrev pub invariant-loop-id : goal.invariant-loop-id
invariant-loop-id g l = l.routes.items ≡ take l.id (g.C.Columns.columns l.columns)
