use Rattle.std.proofs.Common.{◌<◌, length, get_or, sym, subst, arith, ap, w64}
use Rattle.std.specs.Prelude.{◌≤ℤ◌, FitsSigned}
use Rattle.std.proofs.lemmas.Int.{to_z-of_z}
use Rattle.std.proofs.lemmas.List.Elements.{Contains-get_or}
use Rattle.crew_terms.specs.Leaf.{earned, rewards}
use Rattle.share_terms.specs.Shares.{IsRouteIn}
use Rattle.column_arena.specs.Columns.{column_of, no_column}
use Rattle.node_solver.specs.Meeting.IsMet.{Earned}
use Rattle.node_solver.proofs.MeetingLemmas.{entered_is}
use Rattle.node_solver.proofs.earnings.is_met.Goals as goal

pub earns-requires-clause-legal : goal.earns-requires-clause-legal
earns-requires-clause-legal g c =
    let n = c.args.limits.now.limits in
    let cs = g.C.Columns.columns c.args.columns.now in
    let i = c.loop-id.id-index in
    let below : i < length c.args.run.now.ids = omega (arith, ap length c.ids-id-items.ensures, c.loop-id-test.true) in
    subst (λ l. IsRouteIn n (column_of cs (get_or l i 0))) (sym c.ids-id-items.ensures)
    (entered_is n cs c.args.run.now.ids i c.requires.over.legal below)

pub returns-then-earns-clause-met : goal.returns-then-earns-clause-met
returns-then-earns-clause-met g c = λ _.
    let n = c.args.limits.now.limits in
    let cs = g.C.Columns.columns c.args.columns.now in
    let i = c.loop-id.id-index in
    let id = get_or c.ids-id-items.result.now i 0 in
    let below : i < length c.args.run.now.ids = omega (arith, ap length c.ids-id-items.ensures, c.loop-id-test.true) in
    let legal : IsRouteIn n (column_of cs id) = subst (λ l. IsRouteIn n (column_of cs (get_or l i 0))) (sym c.ids-id-items.ensures)
    (entered_is n cs c.args.run.now.ids i c.requires.over.legal below) in
    let known : id < length cs = subst (λ l. get_or l i 0 < length cs) (sym c.ids-id-items.ensures) (c.requires.over.at.along.known i 0 below) in
    let fits : FitsSigned w64 c.args.worth = c.ranges.worth in
    let enough : c.args.worth ≤ℤ rewards (earned c.args.prices.now c.args.k) (column_of cs id).visits = simp to_z-of_z at (c.earns.ensures.enough c.if-earns.true) in
    Earned (column_of cs id) (Contains-get_or cs id no_column known) legal (c.earns.ensures.team c.if-earns.true) enough
