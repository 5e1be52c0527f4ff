use Rattle.std.proofs.Common.{◌≡◌, ◌∙◌, length, sym, ap}
use Rattle.std.specs.Prelude.{position, unwrap_or}
use Rattle.std.proofs.lemmas.List.{length-map}
use Rattle.day_terms.specs.Instances.{task_number}
use Rattle.day_terms.specs.State.{is_task}
use Rattle.flight_changes.specs.Kept.{kept}
use Rattle.flight_changes.proofs.ByPlace.{placed}
use Rattle.flight_changes.proofs.lists.Lists.number_of_task.Goals as goal

pub returns : goal.returns
returns c =
    let s = kept c.self.inside in
    let name = c.args.name.now in
    let at : c.get_index_of.result ≡ position (is_task name) s.tasks =
    c.get_index_of.ensures.index ∙ placed (λ t. t.name) c.self.inside.tasks.entries name c.self.invariant.tasks_by_name in
    let n : c.len-tasks.result ≡ length s.tasks = c.len-tasks.ensures.len ∙ sym (length-map c.self.inside.tasks.entries (λ e. e.1)) in
    c.unwrap_or.ensures
    ∙ ap (λ o. unwrap_or o c.len-tasks.result) at
    ∙ ap (unwrap_or (position (is_task name) s.tasks)) n
    ∙ ap (λ s. task_number s name) c.self.view_is
