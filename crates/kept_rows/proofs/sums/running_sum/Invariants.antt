use Rattle.std.proofs.Common.{◌≡◌}
use Rattle.kept_rows.specs.Forming.{sum_of}
use Rattle.kept_rows.proofs.sums.running_sum.Given as goal

abbrev pub invariant-loop-h : goal.invariant-loop-h
invariant-loop-h l = l.sum ≡ sum_of l.h l.row l.numbers
