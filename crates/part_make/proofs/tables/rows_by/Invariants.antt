use Rattle.std.proofs.Common.{◌≡◌, length, map}
use Rattle.std.specs.List.{range_with_len}
use Rattle.crew_instance.specs.Draft.{rows_of}
use Rattle.part_make.specs.Tables.{by_way_of, row_of}
use Rattle.part_make.proofs.tables.rows_by.Given as goal

abbrev pub invariant-loop-a : goal.invariant-loop-a
invariant-loop-a l = rows_of l.next.items ≡ map (λ x. row_of (length l.rows) (by_way_of (rows_of l.rows) l.fn.b x)) (range_with_len 0 l.a)
