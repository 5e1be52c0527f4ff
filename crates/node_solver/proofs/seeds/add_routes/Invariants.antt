use Rattle.search_terms.specs.Search.{Extends}
use Rattle.node_solver.proofs.seeds.add_routes.Given as goal

-- the columns have only grown
abbrev pub invariant-loop-route : goal.invariant-loop-route
invariant-loop-route g l = Extends l.limits.limits (g.C.Columns.columns l.initial.columns) (g.C.Columns.columns l.columns)
