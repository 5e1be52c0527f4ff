use Rattle.std.proofs.Common.{◌<◌, ℕ, length}
use Rattle.crew_num.specs.Exact.{FitsI128}
use Rattle.kept_rows.specs.Clearing.{at_row}
use Rattle.kept_rows.specs.Forming.{sum_of}
use Rattle.kept_rows.specs.Table.{rows_of}
use Rattle.kept_rows.proofs.sums.form_sums.Given as goal

abbrev pub invariant-loop-row : goal.invariant-loop-row
invariant-loop-row l = (k : ℕ) → k < l.row-index → FitsI128 (sum_of (length l.numbers) (at_row (rows_of l.rows) k) l.numbers)
