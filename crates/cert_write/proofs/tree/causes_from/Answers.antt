use Rattle.std.proofs.Common.{drop, length-drop, arith}
use Rattle.std.proofs.lemmas.List.{take_all}
use Rattle.cert_write.proofs.tree.causes_from.Goals as goal

pub returns : goal.returns
returns c = take_all _ (drop c.args.n c.args.causes.now) (let l = length-drop c.args.n c.args.causes.now in omega (arith, l))
