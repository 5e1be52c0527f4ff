use Rattle.std.proofs.Common.{length}
use Rattle.kept_rows.proofs.FullRows.{AreClearedTo}
use Rattle.kept_rows.proofs.clearing.clear.Given as goal

abbrev pub invariant-loop-i : goal.invariant-loop-i
invariant-loop-i l = AreClearedTo (length l.pivot) l.columns l.pivot l.h l.v l.fn.rows l.rows l.i
