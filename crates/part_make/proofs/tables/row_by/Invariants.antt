use Rattle.std.proofs.Common.{◌≡◌}
use Rattle.crew_instance.specs.Draft.{rows_of}
use Rattle.part_make.specs.Tables.{by_way_of, row_of}
use Rattle.part_make.proofs.tables.row_by.Given as goal

abbrev pub invariant-loop-c : goal.invariant-loop-c
invariant-loop-c l = l.row.items ≡ row_of l.c (by_way_of (rows_of l.rows) l.fn.b l.fn.a)
