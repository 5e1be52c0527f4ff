use Rattle.std.proofs.Common.{◌<◌, length, ap, arith}
use Rattle.crew_terms.specs.Limits.{teams_in}
use Rattle.leaf_check.proofs.Priced.{given_few, given_left, given_either}
use Rattle.leaf_check.proofs.prices.set_extras.Goals as goal

pub set_if_required-read-requires-clause-few : goal.set_if_required-read-requires-clause-few
set_if_required-read-requires-clause-few c =
    let count = c.loop-k.invariant.count in
    let few = given_few c.args.limits.now.limits c.args.j c.loop-k.k in
    omega arith

pub set_if_required-read-requires-clause-count : goal.set_if_required-read-requires-clause-count
set_if_required-read-requires-clause-count c = λ is.
    let n = c.args.limits.now.limits in
    let size = ap (λ i. length i.teams) c.instance.ensures.instance in
    let test = c.loop-k-test.true in
    let end = c.teams-k-end.ensures.count in
    let team : c.loop-k.k < teams_in n = omega arith in
    let count = c.loop-k.invariant.count in
    let left = given_left n c.args.j c.loop-k.k c.args.given.now team c.requires.count is in
    omega arith

pub loop-k-preserved : goal.loop-k-preserved
loop-k-preserved c =
    let n = c.args.limits.now.limits in
    let size = ap (λ i. length i.teams) c.instance.ensures.instance in
    let test = c.loop-k-test.true in
    let end = c.teams-k-end.ensures.count in
    let team : c.loop-k.k < teams_in n = omega arith in
    given_either n c.args.prices.now c.loop-k.prices c.set_if_required-read.new.prices c.args.j c.loop-k.k c.args.given.now c.loop-k.read c.set_if_required-read.result
    team c.requires.task c.requires.count c.loop-k.invariant c.set_if_required-read.ensures.set c.set_if_required-read.ensures.next
