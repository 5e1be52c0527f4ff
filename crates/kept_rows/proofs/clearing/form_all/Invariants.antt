use Rattle.std.proofs.Common.{◌<◌, ℕ}
use Rattle.crew_num.specs.Exact.{StepsFit}
use Rattle.search_terms.specs.Rows.{number}
use Rattle.kept_rows.specs.Columns.{full}
use Rattle.kept_rows.proofs.clearing.form_all.Given as goal

abbrev pub invariant-loop-column : goal.invariant-loop-column
invariant-loop-column l = (j : ℕ) → j < l.column-index → StepsFit l.p (number (full l.columns l.row) j) l.e (number (full l.columns l.pivot) j)
