use Rattle.kept_rows.proofs.Listed.{AreWithinTo}
use Rattle.kept_rows.proofs.tableau.reach_of_all.Given as goal

abbrev pub invariant-loop-column : goal.invariant-loop-column
invariant-loop-column l = AreWithinTo l.last l.reach l.columns l.column-index
