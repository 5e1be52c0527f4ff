use Rattle.std.proofs.Common.{◌≤◌, length, arith}
use Rattle.field_table.proofs.Fronts.{cut_further, uncut}
use Rattle.field_table.proofs.cuts.cut_front.Goals as goal

pub loop-from-init : goal.loop-from-init
loop-from-init c = uncut c.args.line.now c.args.cuts.now c.requires.room

pub loop-from-preserved : goal.loop-from-preserved
loop-from-preserved c =
    let cut = c.cut_far_word-from in
    let far = c.loop-from-test.true in
    let here : c.loop-from.from ≤ length c.args.line.now = omega arith in
    rw cut.ensures.until (cut_further c.args.line.now c.loop-from.cuts c.loop-from.count c.loop-from.from cut.new.cut c.loop-from.invariant here cut.ensures.word)
