use Rattle.std.proofs.Common.{map, subst, sym, ap, ◌∙◌, take_all}
use Rattle.plan_check.specs.Visits.{AreTasksOf}
use Rattle.plan_check.proofs.Listed.{visit_of, tasks_from_turns, visits_from_tasks}
use Rattle.plan_check.proofs.visits.tasks_of.Goals as goal

pub returns-clause-tasks : goal.returns-clause-tasks
returns-clause-tasks c =
    let all = ap (map visit_of) (take_all c.loop-turn.turn-index c.as_slice-turns.result.now c.loop-turn-test.false ∙ c.as_slice-turns.ensures.value) in
    subst (AreTasksOf c.args.plan.now c.args.k) (sym (c.loop-turn.invariant ∙ all)) (tasks_from_turns c.args.plan.now c.args.k c.fill_turns.new.turns.items c.fill_turns.ensures)

pub returns-clause-legal : goal.returns-clause-legal
returns-clause-legal c =
    let all = ap (map visit_of) (take_all c.loop-turn.turn-index c.as_slice-turns.result.now c.loop-turn-test.false ∙ c.as_slice-turns.ensures.value) in
    visits_from_tasks c.args.plan.now c.args.k c.loop-turn.visits.items
    (subst (AreTasksOf c.args.plan.now c.args.k) (sym (c.loop-turn.invariant ∙ all)) (tasks_from_turns c.args.plan.now c.args.k c.fill_turns.new.turns.items c.fill_turns.ensures))
