use Rattle.kept_rows.proofs.Reached.{reached}
use Rattle.kept_rows.proofs.bounds.reach_with.Goals as goal

pub returns : goal.returns
returns c = reached c.args.reach c.args.last c.args.column.now c.in_ok-before.before c.greater.result c.in_ok-more.more c.in_ok-before.was c.in_ok-more.ensures c.greater.ensures
