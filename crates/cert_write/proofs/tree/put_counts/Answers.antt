use Rattle.crew_io.specs.Chains.{puts_same}
use Rattle.crew_terms.specs.Branches.{depth, splits}
use Rattle.branch_tree.specs.Trees.{closed, left_open}
use Rattle.cert_write.proofs.Nodes.{counted_of, counts_line}
use Rattle.cert_write.proofs.tree.put_counts.Goals as goal

pub returns : goal.returns
returns g c given is =
    let one = c.one_tree.ensures in
    let tree = c.args.tree.now in
    puts_same g.K.Sink _ _ _ _ _
    (counts_line c.number.result c.number-2.result c.number-3.result c.number-4.result c.splits.result c.closed.result c.left_open.result c.depth.result given
    c.number.ensures c.number-2.ensures c.number-3.ensures c.number-4.ensures
    (counted_of splits tree c.splits.result given one is c.splits.ensures.number) (counted_of closed tree c.closed.result given one is c.closed.ensures.number)
    (counted_of left_open tree c.left_open.result given one is c.left_open.ensures.number) (counted_of depth tree c.depth.result given one is c.depth.ensures.number))
    c.put_line.ensures
