use Rattle.std.proofs.Common.{◌<◌, ℕ}
use Rattle.crew_num.specs.Exact.{FitsI128}
use Rattle.search_terms.specs.Rows.{number}
use Rattle.kept_rows.proofs.opening.read.Given as goal

abbrev pub invariant-loop-j : goal.invariant-loop-j
invariant-loop-j l = (k : ℕ) → k < l.j → FitsI128 (number l.row k)
