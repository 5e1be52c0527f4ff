use Rattle.kept_rows.proofs.Reached.{IsWithinTo}
use Rattle.kept_rows.proofs.bounds.reach_of.Given as goal

abbrev pub invariant-loop-h : goal.invariant-loop-h
invariant-loop-h l = IsWithinTo l.last l.reach l.column l.h
