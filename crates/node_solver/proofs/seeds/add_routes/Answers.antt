use Rattle.node_solver.proofs.Growing.{extends_more, extends_none}
use Rattle.node_solver.proofs.seeds.add_routes.Goals as goal

pub loop-route-init : goal.loop-route-init
loop-route-init g c = extends_none c.args.limits.now.limits (g.C.Columns.columns c.args.columns.now)

pub loop-route-preserved : goal.loop-route-preserved
loop-route-preserved g c =
    extends_more c.args.limits.now.limits (g.C.Columns.columns c.args.columns.now) (g.C.Columns.columns c.loop-route.columns)
    (g.C.Columns.columns c.add_route.new.columns) c.loop-route.invariant c.add_route.ensures

pub returns-in_err-add_route : goal.returns-in_err-add_route
returns-in_err-add_route g c =
    extends_more c.args.limits.now.limits (g.C.Columns.columns c.args.columns.now) (g.C.Columns.columns c.loop-route.columns)
    (g.C.Columns.columns c.add_route.new.columns) c.loop-route.invariant c.add_route.ensures
