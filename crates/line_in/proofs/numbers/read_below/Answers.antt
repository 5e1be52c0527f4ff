use Rattle.std.proofs.Common.{drop, arith}
use Rattle.line_in.proofs.Accepted.{last_below}
use Rattle.line_in.proofs.Fields.{below_read}
use Rattle.line_in.proofs.numbers.read_below.Goals as goal

pub returns : goal.returns
returns c = below_read c.args.past _ (last_below c.args.past (omega arith)) (omega arith) (drop c.args.from c.args.words) c.read_rest.result c.read_rest.ensures
