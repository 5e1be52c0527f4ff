use Rattle.std.proofs.Common.{arith}
use Rattle.squeeze_command.proofs.Written.{writes_squeezed}
use Rattle.squeeze_command.proofs.command.put_squeezed.Goals as goal

pub write_sheet-requires-clause-few : goal.write_sheet-requires-clause-few
write_sheet-requires-clause-few g c =
    let run = c.in_ok-got.ensures in
    let a = run.greatest.known in
    let b = run.count in
    let d = c.requires.steps in
    omega arith

pub write_sheet-requires-clause-known : goal.write_sheet-requires-clause-known
write_sheet-requires-clause-known g c = c.in_ok-got.ensures.greatest.known

pub returns : goal.returns
returns g c =
    let i = c.args.instance.now in
    let run = c.in_ok-got.ensures in
    let got = c.in_ok-got.got in
    writes_squeezed g.K.Sink i c.args.nodes c.args.steps got.at got.l got.trace run
    (c.squeezed_prices_prove.ensures i c.args.nodes c.args.steps got.at got.l got.trace c.requires.nodes run) _ _ c.write_sheet.result c.write_sheet.ensures
