use Rattle.kept_rows.specs.Opening.{AreOpeningColumns}
use Rattle.kept_rows.specs.Table.{rows_of}
use Rattle.kept_rows.proofs.opening.opening_columns.Given as goal

abbrev pub invariant-loop-j : goal.invariant-loop-j
invariant-loop-j l = AreOpeningColumns (rows_of l.rows) l.j l.columns.items
