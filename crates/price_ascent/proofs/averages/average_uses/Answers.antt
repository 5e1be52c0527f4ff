use Rattle.std.proofs.Common.{◌<◌, length, sym, subst, rules}
use Rattle.std.specs.List.{All}
use Rattle.std.proofs.lemmas.List.Sorted.{All-permutation}
use Rattle.branch_choice.specs.Uses.{IsPermittedUse}
use Rattle.price_ascent.specs.Found.{IsFound}
use Rattle.price_ascent.specs.declared.trail.FoundRoute.{FoundRoute}
use Rattle.price_ascent.proofs.averages.average_uses.Goals as goal

pub loop-n-preserved : goal.loop-n-preserved
loop-n-preserved c = λ n found.
    let lt : c.loop-n.n < length c.args.routes.now.items = search rules in
    let here : IsFound n c.index-route.result.now =
    subst (λ (r : FoundRoute). IsFound n r) (sym c.index-route.ensures) (found c.loop-n.n c.index-route.result.now lt) in
    c.in_ok-add_visits.ensures n here (c.loop-n.invariant n found)

pub returns : goal.returns
returns c = λ n found.
    let sorted : All (IsPermittedUse n) c.sort_by_key.new.self.items =
    All-permutation (IsPermittedUse n) _ _ c.in_ok-sort_by_key.ensures.permutation (c.loop-n.invariant n found) in
    c.merged.ensures n (rw c.deref.ensures.value sorted)
