use Rattle.price_ascent.specs.Visits.{route_by_visits}
use Rattle.tree_rehearsal.proofs.program.add_route.Goals as goal

pub add_spans-requires-clause-visits : goal.add_spans-requires-clause-visits
add_spans-requires-clause-visits c =
    route_by_visits c.args.limits.now.limits c.args.team c.args.visits.now (c.is_route.ensures.route c.if-is_route.true)
