use Rattle.crew_terms.specs.Instance.{minutes_between}
use Rattle.part_make.proofs.OneMore.{one_more}
use Rattle.part_make.proofs.tables.straight_row.Goals as goal

pub loop-c-preserved : goal.loop-c-preserved
loop-c-preserved c =
    one_more (minutes_between c.args.whole.now c.args.a) c.loop-c.c c.loop-c.row.items c.push.new.self.items c.travel.result c.in_ok-push.ensures.items c.loop-c.invariant c.travel.ensures.minutes
