use Rattle.std.proofs.Common.{◌+◌, subst, sym}
use Rattle.arrayvec.specs.ArrayVec.{ArrayVec}
use Rattle.crew_instance.specs.Turns.{AreTurns}
use Rattle.crew_instance.specs.declared.turns.Turn.{Turn}
use Rattle.crew_instance.proofs.TeamTurns.{tasks_below, turns_skip, turns_put}
use Rattle.crew_instance.proofs.turns.fill_among.Goals as goal
use Rattle.crew_instance.proofs.turns.fill_among.Goals.{in-Some, in_default}

pub put_in_order-requires-clause-last : goal.put_in_order-requires-clause-last
put_in_order-requires-clause-last c =
    tasks_below c.args.plan.now c.args.k c.loop-task.task c.loop-task.turns.items c.loop-task.invariant c.in-Some.turn.task c.in-Some.ensures.0

pub loop-task-preserved : goal.loop-task-preserved
loop-task-preserved c =
    elim c.match-turn_among.branch [
      | in-Some w ↦
          subst (λ (v : ArrayVec Turn). AreTurns c.args.plan.now c.args.k (c.loop-task.task + 1) v.items) (sym w.turns-is)
          (turns_put c.args.plan.now c.args.k c.loop-task.task c.loop-task.turns.items c.loop-task.invariant w.in-Some.turn w.put_in_order.new.turns.items w.in-Some.ensures.0 w.in-Some.ensures.1 w.put_in_order.ensures.order w.put_in_order.ensures.moved)
      | in_default w ↦
          subst (λ (v : ArrayVec Turn). AreTurns c.args.plan.now c.args.k (c.loop-task.task + 1) v.items) (sym w.turns-is)
          (turns_skip c.args.plan.now c.args.k c.loop-task.task c.loop-task.turns.items c.loop-task.invariant w.in_default.ensures)
    ]
