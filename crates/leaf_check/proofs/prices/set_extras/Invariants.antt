use Rattle.leaf_check.proofs.Priced.{Given}
use Rattle.leaf_check.proofs.prices.set_extras.Given as goal

abbrev pub invariant-loop-k : goal.invariant-loop-k
invariant-loop-k l = Given l.limits.limits l.fn.prices l.prices l.j l.k l.given l.read
