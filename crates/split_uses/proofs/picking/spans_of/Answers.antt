use Rattle.split_uses.proofs.picking.spans_of.Goals as goal

pub loop-span-preserved : goal.loop-span-preserved
loop-span-preserved c = λ n all. c.in_ok-add_own.ensures n (all c.loop-span.span-index _ c.loop-span-test.true) (c.loop-span.invariant n all)
