use Rattle.std.proofs.Common.{ap}
use Rattle.crew_io.specs.Chains.{puts_nothing, puts_same, puts_more, puts_more_front, puts_all}
use Rattle.each_out.proofs.items.put_each.Goals as goal

pub loop-item-init : goal.loop-item-init
loop-item-init g c = puts_nothing g.K.Sink c.args.out.now

pub loop-item-preserved : goal.loop-item-preserved
loop-item-preserved g c =
    let text = g.W.Writes.text c.args.writer.now in
    puts_more g.K.Sink text c.args.items.now c.loop-item.item-index c.item-item.result c.loop-item-test.true _ _ _ _ _ c.loop-item.invariant
    (puts_same g.K.Sink _ _ _ _ _ (ap text c.item-item.is) c.in_ok-write.ensures)

pub returns-in_err-write : goal.returns-in_err-write
returns-in_err-write g c =
    let text = g.W.Writes.text c.args.writer.now in
    puts_more_front g.K.Sink text c.args.items.now c.loop-item.item-index c.item-item.result c.loop-item-test.true _ _ _ _ _ c.from_residual.result c.from_residual.ensures.0
    c.loop-item.invariant (puts_same g.K.Sink _ _ _ _ _ (ap text c.item-item.is) c.in_err-write.ensures)

pub returns : goal.returns
returns g c = puts_all g.K.Sink (g.W.Writes.text c.args.writer.now) c.args.items.now c.loop-item.item-index _ _ _ _ c.loop-item-test.false c.loop-item.invariant
