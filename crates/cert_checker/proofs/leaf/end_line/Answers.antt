use Rattle.std.proofs.Common.{true, false}
use Rattle.cert_checker.proofs.LeafRows.{compared, ends_whole, ends_miscounted}
use Rattle.cert_checker.proofs.leaf.end_line.Goals as goal

pub returns-then-eq : goal.returns-then-eq
returns-then-eq c = ends_whole c.args.tree c.args.seen c.args.words c.in_ok-read_end.ensures
    (compared c.args.seen c.deref.result.now c.args.tree.value true c.eq.result c.deref.ensures c.eq.ensures c.if-eq.true)

pub returns-else-eq : goal.returns-else-eq
returns-else-eq c = ends_miscounted c.args.tree c.args.seen c.args.words c.in_ok-read_end.ensures
    (compared c.args.seen c.deref.result.now c.args.tree.value false c.eq.result c.deref.ensures c.eq.ensures c.if-eq.false)
