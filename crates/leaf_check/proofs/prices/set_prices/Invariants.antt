use Rattle.leaf_check.proofs.Priced.{TasksGiven}
use Rattle.leaf_check.proofs.prices.set_prices.Given as goal

abbrev pub invariant-loop-j : goal.invariant-loop-j
invariant-loop-j l = TasksGiven l.limits.limits l.prices l.j l.given
