use Rattle.leaf_check.proofs.Priced.{Cleared}
use Rattle.leaf_check.proofs.prices.clear_pairs.Given as goal

abbrev pub invariant-loop-k : goal.invariant-loop-k
invariant-loop-k l = Cleared l.limits.limits l.fn.prices l.prices l.j l.k
