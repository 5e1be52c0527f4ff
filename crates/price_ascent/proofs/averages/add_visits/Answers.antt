use Rattle.std.proofs.Common.{ℕ}
use Rattle.std.specs.List.{All}
use Rattle.std.proofs.lemmas.List.Elements.{All-push}
use Rattle.branch_choice.specs.Uses.{IsPermittedUse}
use Rattle.price_ascent.specs.Visits.{IsVisitOf, route_by_visits}
use Rattle.price_ascent.proofs.averages.add_visits.Goals as goal

pub loop-visit-preserved : goal.loop-visit-preserved
loop-visit-preserved c = λ n found old.
    let k : ℕ = c.args.route.now.team in
    let visits : All (IsVisitOf n k) c.deref-visit-items.result.now =
    rw c.deref-visit-items.ensures.value (route_by_visits n k c.args.route.now.visits.items found.is_route) in
    rw c.in_ok-push.ensures.items
    (All-push (IsPermittedUse n) c.loop-visit.uses.items _ (c.loop-visit.invariant n found old)
    (record { team = found.team_known; visit = visits c.loop-visit.visit-index _ c.loop-visit-test.true }))
