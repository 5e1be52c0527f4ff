use Rattle.std.specs.List.{All}
use Rattle.std.proofs.lemmas.List.Elements.{All-push}
use Rattle.branch_choice.specs.Uses.{IsPermittedUse}
use Rattle.price_ascent.specs.Visits.{IsVisitOf, route_by_visits}
use Rattle.node_solver.proofs.uses.add_visits.Goals as goal

pub loop-visit-preserved : goal.loop-visit-preserved
loop-visit-preserved c = λ n team route old.
    let visits : All (IsVisitOf n c.args.team) c.args.visits.now = route_by_visits n c.args.team c.args.visits.now route in
    rw c.in_ok-push.ensures.items
    (All-push (IsPermittedUse n) c.loop-visit.uses.items _ (c.loop-visit.invariant n team route old)
    (record { team = team; visit = visits c.loop-visit.visit-index _ c.loop-visit-test.true }))
