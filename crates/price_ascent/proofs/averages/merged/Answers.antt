use Rattle.price_ascent.proofs.averages.merged.Goals as goal

pub loop-n-preserved : goal.loop-n-preserved
loop-n-preserved c = λ n all. c.in_ok-add_at_end.ensures n (all c.loop-n.n _ c.loop-n-test.true) (c.loop-n.invariant n all)
