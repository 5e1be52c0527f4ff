use Rattle.leaf_check.proofs.Tabled.{RunsGiven}
use Rattle.leaf_check.proofs.runs.set_runs.Given as goal

abbrev pub invariant-loop-n : goal.invariant-loop-n
invariant-loop-n l = RunsGiven l.fn.table l.table l.j l.past l.n l.pairs
