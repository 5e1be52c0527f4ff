use Rattle.std.proofs.Common.{◌<◌, All, sym, subst}
use Rattle.column_arena.specs.Columns.{column_of}
use Rattle.crew_terms.specs.Limits.{teams_in}
use Rattle.price_ascent.specs.Visits.{IsVisitOf, route_by_visits}
use Rattle.node_solver.proofs.spans.add_column.Goals as goal

pub add_spans-requires-clause-team : goal.add_spans-requires-clause-team
add_spans-requires-clause-team g c =
    subst (λ k. k < teams_in c.args.limits.now.limits) (sym c.team.ensures) c.requires.legal.route.team

pub add_spans-requires-clause-visits : goal.add_spans-requires-clause-visits
add_spans-requires-clause-visits g c =
    let n = c.args.limits.now.limits in
    let r = column_of (g.C.Columns.columns c.args.columns.now) c.args.share.now.column in
    subst (λ k. All (IsVisitOf n k) c.visits.result.now) (sym c.team.ensures)
    (subst (All (IsVisitOf n r.team)) (sym c.visits.ensures) (route_by_visits n r.team r.visits c.requires.legal.route.route))
