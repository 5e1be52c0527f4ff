use Rattle.std.proofs.Common.{◌<◌, ◌≤◌, ◌/◌, length, ap, ◌∙◌, arith}
use Rattle.route_pool.proofs.Spelled.{is_visit, all_read, task_fits, start_fits, one_more}
use Rattle.route_terms.specs.Routes.{route_of}
use Rattle.route_pool.proofs.routes.read_route.Goals as goal

pub overflow_cast-get : goal.overflow_cast-get
overflow_cast-get c =
    let vs = c.requires.0 in
    let below : c.loop-n.n < length c.args.numbers.now / 2 = omega arith in
    task_fits vs c.args.numbers.now c.requires.1 c.loop-n.n (is_visit vs c.args.numbers.now c.requires.1 c.loop-n.n below) c.get.result c.get.ensures

pub overflow_cast-get-in-loop-n : goal.overflow_cast-get-in-loop-n
overflow_cast-get-in-loop-n c =
    let vs = c.requires.0 in
    let below : c.loop-n.n < length c.args.numbers.now / 2 = omega arith in
    start_fits vs c.args.numbers.now c.requires.1 c.loop-n.n (is_visit vs c.args.numbers.now c.requires.1 c.loop-n.n below) c.get-in-loop-n.result c.get-in-loop-n.ensures

pub loop-n-preserved : goal.loop-n-preserved
loop-n-preserved c visits are =
    let under : c.loop-n.n < length c.args.numbers.now / 2 = omega arith in
    let below = is_visit visits c.args.numbers.now are c.loop-n.n under in
    one_more visits c.args.numbers.now are c.loop-n.n below c.get.result c.get-in-loop-n.result c.loop-n.visits.items c.push.new.self.items
    c.get.ensures c.get-in-loop-n.ensures (c.loop-n.invariant visits are) c.in_ok-push.ensures.items

pub returns : goal.returns
returns c visits are =
    let past : length c.args.numbers.now / 2 ≤ c.loop-n.n = omega arith in
    c.new.ensures ∙ ap (λ vs. route_of c.args.team vs) (c.loop-n.invariant visits are ∙ all_read visits c.args.numbers.now are c.loop-n.n past)
