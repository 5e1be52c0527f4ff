use Rattle.std.proofs.Common.{◌<◌, sym, subst}
use Rattle.crew_terms.specs.Limits.{IsRoute, teams_in}
use Rattle.column_arena.specs.Columns.{column_of}
use Rattle.node_solver.proofs.uses.add_column.Goals as goal

pub returns : goal.returns
returns g c = λ n legal old.
    let r = column_of (g.C.Columns.columns c.args.columns.now) c.args.share.now.column in
    c.add_visits.ensures n (subst (λ k. k < teams_in n) (sym c.team.ensures) legal.route.team)
    (subst (λ k. IsRoute n k c.visits.result.now) (sym c.team.ensures) (subst (IsRoute n r.team) (sym c.visits.ensures) legal.route.route)) old
