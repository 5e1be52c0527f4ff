use Rattle.std.proofs.Common.{◌≡◌, take}
use Rattle.kept_rows.specs.Opening.{column_numbers}
use Rattle.kept_rows.specs.Table.{rows_of}
use Rattle.kept_rows.proofs.opening.numbers_at.Given as goal

abbrev pub invariant-loop-row : goal.invariant-loop-row
invariant-loop-row l = l.numbers.items ≡ column_numbers (rows_of (take l.row-index l.rows)) l.j
