use Rattle.column_arena.proofs.Carrying.{carried}
use Rattle.column_arena.proofs.carry.Carry.take.Goals as goal

pub invariant_of-result : goal.invariant_of-result
invariant_of-result g c =
    rw (c.in_ok-teams.ensures, c.in_ok-tasks.ensures, c.in_ok-routes.ensures)
    (carried c.args.instance.now c.teams.ensures.limits (g.C.Columns.columns c.args.columns.now) c.requires c.len.ensures.are.each c.len.ensures.are.apart)
