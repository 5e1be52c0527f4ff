use Rattle.std.proofs.Common.{refl}
use Rattle.each_out.specs.Laws.{puts_as}
use Rattle.plan_changes.proofs.put_moved.Goals as goal

pub returns : goal.returns
returns g c =
    puts_as g.K.Sink _ _ _ _ _ c.put_line.ensures
    (rw (c.bytes.ensures.bytes, c.task.ensures, c.clock-from.ensures, c.clock-to.ensures, c.start.ensures.start, c.start-2.ensures.start) refl)
