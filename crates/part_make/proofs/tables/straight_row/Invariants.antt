use Rattle.std.proofs.Common.{◌≡◌}
use Rattle.crew_terms.specs.Instance.{minutes_between}
use Rattle.part_make.specs.Tables.{row_of}
use Rattle.part_make.proofs.tables.straight_row.Given as goal

abbrev pub invariant-loop-c : goal.invariant-loop-c
invariant-loop-c l = l.row.items ≡ row_of l.c (minutes_between l.whole l.fn.a)
