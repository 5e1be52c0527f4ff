use Rattle.std.proofs.Common.{◌<◌, length}
use Rattle.field_table.proofs.Fronts.{cut_further, uncut}
use Rattle.field_table.proofs.cuts.cut_line.Goals as goal
use Rattle.field_table.proofs.cuts.cut_line.Goals.{then-line-ge-FAR, else-line-ge-FAR}

pub loop-from-init : goal.loop-from-init
loop-from-init c =
    let room : length c.args.line.now < length c.if-line-ge-FAR.cuts = rw c.if-line-ge-FAR.auto.cuts c.requires.room in
    elim c.if-line-ge-FAR.branch [
      | then-line-ge-FAR w ↦ record { room = room; cut = rw w.cuts-is (rw w.count-is (rw w.from-is w.cut_front.ensures)) }
      | else-line-ge-FAR w ↦ rw w.count-is (rw w.from-is (uncut c.args.line.now c.if-line-ge-FAR.cuts room))
    ]

pub loop-from-preserved : goal.loop-from-preserved
loop-from-preserved c =
    let cut = c.cut_word-from in
    rw cut.ensures.until
    (cut_further c.args.line.now c.loop-from.cuts c.loop-from.count c.loop-from.from cut.new.cut c.loop-from.invariant c.loop-from-test.true cut.ensures.word)
