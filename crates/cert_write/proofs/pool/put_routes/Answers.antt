use Rattle.std.proofs.Common.{◌<◌, ◌≤◌, length, ap, ◌∙◌, arith}
use Rattle.crew_io.specs.Chains.{puts_nothing}
use Rattle.column_arena.specs.Columns.{column_of, no_column}
use Rattle.dossier_terms.specs.Lines.{route_line}
use Rattle.route_terms.specs.Routes.{route_of}
use Rattle.line_out.specs.Lines.{puts_line, puts_line_front, puts_lines}
use Rattle.cert_write.proofs.pool.put_routes.Goals as goal

pub loop-id-init : goal.loop-id-init
loop-id-init g c = puts_nothing g.K.Sink c.args.out.now

pub loop-id-preserved : goal.loop-id-preserved
loop-id-preserved g c =
    let cs = g.C.Columns.columns c.args.columns.now in
    let below : c.loop-id.id < length cs = (let t = c.loop-id-test.true in let e = c.len-id-end.ensures.count in omega (arith, t, e)) in
    puts_line g.K.Sink route_line cs c.loop-id.id no_column below _ (ap (λ k. route_line (route_of k c.visits.result.now)) c.team.ensures ∙ ap (λ v. route_line (route_of (column_of cs c.loop-id.id).team v)) c.visits.ensures)
    _ _ _ _ _ c.loop-id.invariant c.in_ok-put_route.ensures

pub returns-in_err-put_route : goal.returns-in_err-put_route
returns-in_err-put_route g c =
    let cs = g.C.Columns.columns c.args.columns.now in
    let below : c.loop-id.id < length cs = (let t = c.loop-id-test.true in let e = c.len-id-end.ensures.count in omega (arith, t, e)) in
    puts_line_front g.K.Sink route_line cs c.loop-id.id no_column below _ (ap (λ k. route_line (route_of k c.visits.result.now)) c.team.ensures ∙ ap (λ v. route_line (route_of (column_of cs c.loop-id.id).team v)) c.visits.ensures)
    _ _ _ _ _ c.from_residual.result c.from_residual.ensures.0 c.loop-id.invariant c.in_err-put_route.ensures

pub returns : goal.returns
returns g c =
    let cs = g.C.Columns.columns c.args.columns.now in
    let past : length cs ≤ c.loop-id.id = (let t = c.loop-id-test.false in let e = c.len-id-end.ensures.count in omega (arith, t, e)) in
    puts_lines g.K.Sink route_line cs c.loop-id.id _ _ _ _ past c.loop-id.invariant
