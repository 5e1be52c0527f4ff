use Rattle.why_not.proofs.Rows.{AreSameTo}
use Rattle.why_not.proofs.runs.are_same.Given as goal

abbrev pub invariant-loop-k : goal.invariant-loop-k
invariant-loop-k l = AreSameTo l.a l.b l.k
