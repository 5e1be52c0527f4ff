use Rattle.kept_rows.proofs.Listed.{AreKeptTo}
use Rattle.kept_rows.proofs.opening.kept_rows.Given as goal

abbrev pub invariant-loop-row : goal.invariant-loop-row
invariant-loop-row l = AreKeptTo l.rows l.openers l.row-index l.all.items
