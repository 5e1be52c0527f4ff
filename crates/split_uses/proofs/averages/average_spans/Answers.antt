use Rattle.std.proofs.Common.{◌<◌, length, sym, subst, rules}
use Rattle.price_ascent.specs.Found.{IsFound}
use Rattle.price_ascent.specs.Visits.{route_by_visits}
use Rattle.price_ascent.specs.declared.trail.FoundRoute.{FoundRoute}
use Rattle.split_uses.proofs.averages.average_spans.Goals as goal

pub add_spans-requires-clause-visits : goal.add_spans-requires-clause-visits
add_spans-requires-clause-visits c =
    let n = c.args.limits.now.limits in
    let lt : c.loop-n.n < length c.args.found.now.routes.items = search rules in
    let route = c.index-route.result.now in
    let here : IsFound n route = subst (λ (r : FoundRoute). IsFound n r) (sym c.index-route.ensures) (c.requires c.loop-n.n route lt) in
    rw c.deref.ensures.value (route_by_visits n route.team route.visits.items here.is_route)
