use Rattle.node_solver.proofs.uses.uses_of.Goals as goal

pub add_column-requires : goal.add_column-requires
add_column-requires g c = c.requires c.loop-share.share-index _ c.loop-share-test.true

pub loop-share-preserved : goal.loop-share-preserved
loop-share-preserved g c = λ n legal.
    c.in_ok-add_column.ensures n (legal c.loop-share.share-index _ c.loop-share-test.true) (c.loop-share.invariant n legal)
