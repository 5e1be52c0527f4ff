use Rattle.flight_changes.proofs.Accepted.{IsNewTask, task_accepted}
use Rattle.flight_changes.proofs.lists.Lists.new_task.Goals as goal

is_new : (c : goal.After-add_task-arg-1) → IsNewTask c.args.self.now c.args.name c.args.place.now c.args.window.0 c.args.window.1 c.args.teams
is_new c = task_accepted c.args.self.now c.args.name c.args.place.now c.args.window.0 c.args.window.1 c.args.minutes c.args.teams c.args.skills c.requires.accepted

pub add_task-requires-clause-window : goal.add_task-requires-clause-window
add_task-requires-clause-window c =
    let range = c.requires.range in
    let new = is_new c in
    record {
      order = new.window.order;
      width = new.window.width;
      day = range.latest_minute;
      some_minutes = range.duration.some;
      minutes = range.duration.day;
    }

pub add_task-requires-clause-count : goal.add_task-requires-clause-count
add_task-requires-clause-count c = (is_new c).count
