use Rattle.std.proofs.Common.{◌≡◌}
use Rattle.std.specs.Int.{w128, int_wrap}
use Rattle.kept_rows.specs.Sums.{sum_to}
use Rattle.kept_rows.proofs.columns.entry.Given as goal

abbrev pub invariant-loop-h : goal.invariant-loop-h
invariant-loop-h l = l.sum ≡ int_wrap w128 (sum_to l.h l.row l.column.at.items l.column.numbers.items)
