use Rattle.crew_instance.specs.Draft.{rows_of}
use Rattle.part_make.specs.Tables.{by_way_of}
use Rattle.part_make.proofs.OneMore.{one_more}
use Rattle.part_make.proofs.tables.row_by.Goals as goal

pub loop-c-preserved : goal.loop-c-preserved
loop-c-preserved c =
    one_more (by_way_of (rows_of c.args.rows.now) c.args.b c.args.a) c.loop-c.c c.loop-c.row.items c.push.new.self.items c.minutes_by.result c.in_ok-push.ensures.items c.loop-c.invariant c.minutes_by.ensures
