use Rattle.std.proofs.Common.{◌∙◌, length}
use Rattle.crew_terms.specs.Rules.{IsTask}
use Rattle.crew_terms.specs.declared.Task.{Task}
use Rattle.flight_changes.proofs.Keyed.{found_all}
use Rattle.flight_changes.proofs.Known.{task_changed, task_stands}
use Rattle.flight_changes.proofs.Accepted.{move_accepted}
use Rattle.flight_changes.proofs.lists.Lists.set_window.Goals as goal

pub put_task-requires : goal.put_task-requires
put_task-requires c =
    let s = c.args.self.now in
    let is = c.task-old.ensures.limits in
    let old = c.task-old.result in
    let found = c.task-old.ensures.task in
    let fits : IsTask (length s.places) old = found_all (λ t. t.name) (IsTask (length s.places)) s.tasks c.args.task.now old is.parts.tasks found in
    let ok = move_accepted s c.args.task.now c.args.earliest c.args.latest c.requires.accepted in
    record { known = task_stands s is c.args.task.now old found; fits = record { name = fits.name; place = fits.place; window = record { order = ok.1.order; width = ok.1.width; day = c.requires.day; some_minutes = fits.window.some_minutes; minutes = fits.window.minutes }; teams = fits.teams; skills = fits.skills } }

pub returns : goal.returns
returns c =
    let change : Task → Task = λ t. record t { earliest = c.args.earliest; latest = c.args.latest } in
    c.put_task.ensures ∙ task_changed c.args.self.now c.task-old.ensures.limits c.args.task.now c.task-old.result c.task-old.ensures.task change
