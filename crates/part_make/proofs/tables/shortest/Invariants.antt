use Rattle.crew_instance.specs.Draft.{rows_of}
use Rattle.part_make.specs.Tables.{AreWaysBy}
use Rattle.part_make.proofs.tables.shortest.Given as goal

abbrev pub invariant-loop-b : goal.invariant-loop-b
invariant-loop-b l = AreWaysBy l.whole l.b (rows_of l.rows.items)
