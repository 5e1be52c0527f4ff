use Rattle.std.proofs.Common.{List, length, filter, not, arith, sym, ap, subst, ◌∙◌}
use Rattle.std.proofs.lemmas.List.Elements.{All-filter}
use Rattle.crew_terms.specs.Rules.{IsTask}
use Rattle.crew_terms.specs.declared.Task.{Task}
use Rattle.day_terms.specs.declared.Entry.TheVariants.{Cancel}
use Rattle.day_terms.specs.State.{DayState, is_task}
use Rattle.day_terms.specs.Entries.{after_entry}
use Rattle.flight_changes.specs.Kept.{kept}
use Rattle.flight_changes.specs.Limits.{IsState}
use Rattle.flight_changes.proofs.Keyed.{Hold, hold_removed}
use Rattle.flight_changes.proofs.States.{other_tasks, length_filter}
use Rattle.flight_changes.proofs.lists.Lists.cancel.Goals as goal

holds : (c : goal.After-shift_remove) → Hold (λ t. t.name) c.shift_remove.new.self.entries (filter (λ t. not (is_task c.args.task.now t)) (kept c.self.inside).tasks)
holds c =
    hold_removed (λ t. t.name) c.self.inside.tasks.entries c.shift_remove.new.self.entries c.args.task.now c.self.invariant.tasks_by_name c.self.invariant.state.parts.task_names c.shift_remove.ensures.entries c.shift_remove.ensures.unique

pub invariant_of-self : goal.invariant_of-self
invariant_of-self c =
    let s = kept c.self.inside in
    let is = c.self.invariant.state in
    let h = holds c in
    let few = is.parts.few_tasks in
    let n = length_filter (λ t. not (is_task c.args.task.now t)) s.tasks in
    record {
      tasks_by_name = h.named;
      teams_by_name = c.self.invariant.teams_by_name;
      state = subst (λ ts. IsState (record s { tasks = ts })) (sym h.values) (other_tasks s is _ (omega arith) (All-filter (λ t. not (is_task c.args.task.now t)) (IsTask (length s.places)) s.tasks is.parts.tasks) h.apart_names);
    }

pub returns : goal.returns
returns c =
    let with : List Task → DayState = λ ts. record (kept c.self.inside) { tasks = ts } in
    ap with (holds c).values ∙ ap (λ s. after_entry s (Cancel c.args.task.now)) c.self.view_is
