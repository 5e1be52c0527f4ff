use Rattle.std.proofs.Common.{arith}
use Rattle.std.proofs.lemmas.Int.{ints}
use Rattle.crew_num.proofs.Parts.{borrowed, plain}
use Rattle.crew_num.proofs.mixed.difference.Goals as goal

pub returns-then-low-high-clause-value : goal.returns-then-low-high-clause-value
returns-then-low-high-clause-value c = plain _ c.args.high.whole c.args.low.whole c.args.q c.args.high.part c.args.low.part _ (omega (arith, ints)) (omega arith)

pub returns-else-low-high-clause-value : goal.returns-else-low-high-clause-value
returns-else-low-high-clause-value c = borrowed _ c.args.high.whole c.args.low.whole c.args.q c.args.high.part c.args.low.part _ (omega (arith, ints)) (omega arith)
