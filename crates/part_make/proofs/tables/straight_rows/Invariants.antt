use Rattle.std.proofs.Common.{◌≡◌, length, map}
use Rattle.std.specs.List.{range_with_len}
use Rattle.crew_instance.specs.Draft.{rows_of}
use Rattle.crew_terms.specs.Instance.{minutes_between}
use Rattle.part_make.specs.Tables.{row_of}
use Rattle.part_make.proofs.tables.straight_rows.Given as goal

abbrev pub invariant-loop-a : goal.invariant-loop-a
invariant-loop-a l = rows_of l.rows.items ≡ map (λ x. row_of (length l.whole.places) (minutes_between l.whole x)) (range_with_len 0 l.a)
