use Rattle.node_solver.proofs.spans.spans_of.Goals as goal

pub add_column-requires-clause-legal : goal.add_column-requires-clause-legal
add_column-requires-clause-legal g c = c.requires c.loop-share.share-index _ c.loop-share-test.true
