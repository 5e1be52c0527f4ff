use Rattle.std.proofs.Common.{◌+◌, pos, arith}
use Rattle.std.proofs.lemmas.Option.{slice_get_within}
use Rattle.potentials.proofs.Rising.{rising_more}
use Rattle.potentials.proofs.ahead.are_rising.Goals as goal

pub loop-i-preserved : goal.loop-i-preserved
loop-i-preserved c =
    rising_more c.args.list.now c.loop-i.i (record { minute = 0; task = 0; potential = pos 0; second = pos 0 }) c.loop-i.invariant c.loop-i.auto.i (c.rises.ensures c.if-not-rises.false)

pub returns : goal.returns
returns c = λ t i later earlier r s.
    let inside = slice_get_within c.args.list.now (i + 1) earlier s in
    let end = c.loop-i-test.false in
    c.loop-i.invariant i later earlier (omega arith) r s
