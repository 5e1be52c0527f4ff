use Rattle.std.proofs.Common.{◌∙◌, ap}
use Rattle.std.specs.List.{list_any}
use Rattle.day_terms.specs.State.{is_task}
use Rattle.flight_changes.proofs.Keyed.{is_there}
use Rattle.flight_changes.proofs.lists.Lists.has_task.Goals as goal

pub returns : goal.returns
returns c = c.contains_key.ensures ∙ is_there (λ t. t.name) c.self.inside.tasks.entries c.args.name.now c.self.invariant.tasks_by_name ∙ ap (λ s. list_any (is_task c.args.name.now) s.tasks) c.self.view_is
