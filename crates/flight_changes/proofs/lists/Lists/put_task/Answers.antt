use Rattle.std.proofs.Common.{List, is_some, length, map, arith, sym, ap, subst, ◌∙◌, if◌then◌else◌}
use Rattle.std.proofs.lemmas.List.{length-map}
use Rattle.crew_terms.specs.Rules.{IsTask}
use Rattle.crew_terms.specs.declared.Task.{Task}
use Rattle.day_terms.specs.State.{DayState, has_task, is_task, with_changed_task}
use Rattle.flight_changes.specs.Kept.{kept}
use Rattle.flight_changes.specs.Limits.{IsState}
use Rattle.flight_changes.proofs.Keyed.{Hold, hold_written, is_there, some_copied_mut}
use Rattle.flight_changes.proofs.States.{all_replaced, other_tasks}
use Rattle.flight_changes.proofs.lists.Lists.put_task.Goals as goal

pub unwrap-requires : goal.unwrap-requires
unwrap-requires c =
    let there = is_there (λ t. t.name) c.self.inside.tasks.entries c.args.task.name c.self.invariant.tasks_by_name in
    some_copied_mut c.get_mut.result (ap is_some c.get_mut.ensures.value ∙ there ∙ ap (λ s. has_task s c.args.task.name) c.self.view_is ∙ c.requires.known)

holds : (c : goal.After-self-1) → Hold (λ t. t.name) (c.get_mut.follows.lender c.args.task).entries (map (λ t. if is_task c.args.task.name t then c.args.task else t) (kept c.self.inside).tasks)
holds c =
    let through = c.get_mut.follows.holds c.args.task in
    hold_written (λ t. t.name) c.self.inside.tasks.entries (c.get_mut.follows.lender c.args.task).entries c.args.task c.self.invariant.tasks_by_name c.self.invariant.state.parts.task_names through.0 through.4

pub invariant_of-self : goal.invariant_of-self
invariant_of-self c =
    let s = kept c.self.inside in
    let is = c.self.invariant.state in
    let h = holds c in
    let few = is.parts.few_tasks in
    let n = length-map s.tasks (λ t. if is_task c.args.task.name t then c.args.task else t) in
    let fits : IsTask (length s.places) c.args.task = subst (λ s. IsTask (length s.places) c.args.task) (sym c.self.view_is) c.requires.fits in
    record {
      tasks_by_name = h.named;
      teams_by_name = c.self.invariant.teams_by_name;
      state = subst (λ ts. IsState (record s { tasks = ts })) (sym h.values) (other_tasks s is _ (omega arith) (all_replaced (IsTask (length s.places)) (is_task c.args.task.name) c.args.task s.tasks fits is.parts.tasks) h.apart_names);
    }

pub returns : goal.returns
returns c =
    let with : List Task → DayState = λ ts. record (kept c.self.inside) { tasks = ts } in
    ap with (holds c).values ∙ ap (λ s. with_changed_task s c.args.task.name (λ _. c.args.task)) c.self.view_is
