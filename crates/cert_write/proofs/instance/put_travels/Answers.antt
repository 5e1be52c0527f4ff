use Rattle.std.proofs.Common.{◌<◌, ◌≤◌, length, refl, arith}
use Rattle.crew_io.specs.Chains.{puts_nothing}
use Rattle.dossier_terms.specs.Lines.{travel_line}
use Rattle.line_out.specs.Lines.{puts_line, puts_line_front, puts_lines}
use Rattle.cert_write.proofs.instance.put_travels.Goals as goal

pub loop-a-init : goal.loop-a-init
loop-a-init g c = puts_nothing g.K.Sink c.args.out.now

pub returns-in_err-put_travel : goal.returns-in_err-put_travel
returns-in_err-put_travel g c =
    let below : c.loop-a.a < length c.args.instance.now.travel = (let t = c.loop-a-test.true in let e = c.places-a-end.ensures.count in let r = c.places-a-end.ensures.limits.times.rows in omega arith) in
    puts_line_front g.K.Sink travel_line c.args.instance.now.travel c.loop-a.a _ below _ refl _ _ _ _ _ c.from_residual.result c.from_residual.ensures.0 c.loop-a.invariant c.in_err-put_travel.ensures

pub loop-a-preserved : goal.loop-a-preserved
loop-a-preserved g c =
    let below : c.loop-a.a < length c.args.instance.now.travel = (let t = c.loop-a-test.true in let e = c.places-a-end.ensures.count in let r = c.places-a-end.ensures.limits.times.rows in omega arith) in
    puts_line g.K.Sink travel_line c.args.instance.now.travel c.loop-a.a _ below _ refl _ _ _ _ _ c.loop-a.invariant c.in_ok-put_travel.ensures

pub returns : goal.returns
returns g c =
    let past : length c.args.instance.now.travel ≤ c.loop-a.a = (let t = c.loop-a-test.false in let e = c.places-a-end.ensures.count in let r = c.places-a-end.ensures.limits.times.rows in omega arith) in
    puts_lines g.K.Sink travel_line c.args.instance.now.travel c.loop-a.a _ _ _ _ past c.loop-a.invariant
