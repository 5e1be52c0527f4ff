use Rattle.std.proofs.Common.{◌<◌, ◌≤◌, length, ap, ◌∙◌, arith}
use Rattle.crew_io.specs.Chains.{puts_nothing}
use Rattle.dossier_terms.specs.Lines.{place_line}
use Rattle.line_out.specs.Lines.{puts_line, puts_line_front, puts_lines}
use Rattle.cert_write.proofs.instance.put_places.Goals as goal

pub loop-p-init : goal.loop-p-init
loop-p-init g c = puts_nothing g.K.Sink c.args.out.now

pub returns-in_err-put_line : goal.returns-in_err-put_line
returns-in_err-put_line g c =
    let below : c.loop-p.p < length c.args.instance.now.places = (let t = c.loop-p-test.true in let e = c.places-p-end.ensures.count in omega arith) in
    puts_line_front g.K.Sink place_line c.args.instance.now.places c.loop-p.p _ below _ (ap place_line (c.bytes-name.ensures.bytes ∙ c.place.ensures.name)) _ _ _ _ _ c.from_residual.result c.from_residual.ensures.0 c.loop-p.invariant c.in_err-put_line.ensures

pub loop-p-preserved : goal.loop-p-preserved
loop-p-preserved g c =
    let below : c.loop-p.p < length c.args.instance.now.places = (let t = c.loop-p-test.true in let e = c.places-p-end.ensures.count in omega arith) in
    puts_line g.K.Sink place_line c.args.instance.now.places c.loop-p.p _ below _ (ap place_line (c.bytes-name.ensures.bytes ∙ c.place.ensures.name)) _ _ _ _ _ c.loop-p.invariant c.in_ok-put_line.ensures

pub returns : goal.returns
returns g c =
    let past : length c.args.instance.now.places ≤ c.loop-p.p = (let t = c.loop-p-test.false in let e = c.places-p-end.ensures.count in omega arith) in
    puts_lines g.K.Sink place_line c.args.instance.now.places c.loop-p.p _ _ _ _ past c.loop-p.invariant
