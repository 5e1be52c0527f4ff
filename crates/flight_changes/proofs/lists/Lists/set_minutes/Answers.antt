use Rattle.std.proofs.Common.{◌∙◌, length}
use Rattle.crew_terms.specs.Rules.{IsTask}
use Rattle.crew_terms.specs.declared.Task.{Task}
use Rattle.flight_changes.proofs.Keyed.{found_all}
use Rattle.flight_changes.proofs.Known.{task_changed, task_stands}
use Rattle.flight_changes.proofs.Accepted.{task_known}
use Rattle.flight_changes.proofs.lists.Lists.set_minutes.Goals as goal

pub put_task-requires : goal.put_task-requires
put_task-requires c =
    let s = c.args.self.now in
    let is = c.task-old.ensures.limits in
    let old = c.task-old.result in
    let found = c.task-old.ensures.task in
    let fits : IsTask (length s.places) old = found_all (λ t. t.name) (IsTask (length s.places)) s.tasks c.args.task.now old is.parts.tasks found in
    let ok = task_known s c.args.task.now c.requires.accepted in
    record { known = task_stands s is c.args.task.now old found; fits = record { name = fits.name; place = fits.place; window = record { order = fits.window.order; width = fits.window.width; day = fits.window.day; some_minutes = c.requires.some; minutes = c.requires.day }; teams = fits.teams; skills = fits.skills } }

pub returns : goal.returns
returns c =
    let change : Task → Task = λ t. record t { minutes = c.args.minutes } in
    c.put_task.ensures ∙ task_changed c.args.self.now c.task-old.ensures.limits c.args.task.now c.task-old.result c.task-old.ensures.task change
