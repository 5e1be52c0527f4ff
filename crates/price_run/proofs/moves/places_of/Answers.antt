use Rattle.std.proofs.Common.{◌<◌, [], length, ap, arith}
use Rattle.std.proofs.lemmas.List.Sums.{sum_by_more}
use Rattle.squeeze_terms.specs.Run.{visits_priced}
use Rattle.price_run.proofs.moves.places_of.Goals as goal

pub loop-k-preserved : goal.loop-k-preserved
loop-k-preserved c x =
    let i = c.args.instance.now in
    let j = c.args.j in
    let routes = c.args.routes.now in
    let k = c.loop-k.k in
    let inside : k < length routes = let a = c.loop-k-test.true in let b = c.len-k-end.ensures in omega arith in
    let is = c.loop-k.invariant x in
    let more = c.in_ok-gather.ensures x in
    let route = ap (visits_priced i j x) c.route.ensures in
    let sum = sum_by_more (visits_priced i j x) routes k [] inside in
    omega arith
