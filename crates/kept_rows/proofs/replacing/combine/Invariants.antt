use Rattle.kept_rows.proofs.Combining.{IsCombinedTo}
use Rattle.kept_rows.proofs.replacing.combine.Given as goal

abbrev pub invariant-loop-j : goal.invariant-loop-j
invariant-loop-j l = IsCombinedTo l.fn.p l.fn.e l.fn.pivot l.fn.row l.row l.j
