use Rattle.column_arena.proofs.Renumbering.{not_renumbered, renumbered_more}
use Rattle.column_arena.proofs.names.Renumbering.visits.Goals as goal

pub returns-in_default : goal.returns-in_default
returns-in_default c =
    not_renumbered c.args.self.now c.args.visits.now c.loop-visit.visit-index c.loop-visit-test.true c.in_default.ensures

pub loop-visit-preserved : goal.loop-visit-preserved
loop-visit-preserved c =
    rw c.in_ok-push.ensures.items
    (renumbered_more c.args.self.now c.args.visits.now c.loop-visit.visit-index c.loop-visit-test.true c.in-Some.task c.loop-visit.new.items c.loop-visit.invariant c.in-Some.ensures)
