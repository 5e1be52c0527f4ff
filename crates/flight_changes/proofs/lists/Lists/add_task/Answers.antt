use Rattle.std.proofs.Common.{◌≡◌, ◌<◌, ◌++◌, ◌∷◌, [], false, List, length, arith, sym, ap, subst, ◌∙◌}
use Rattle.std.proofs.lemmas.List.{length_push}
use Rattle.std.proofs.lemmas.List.Elements.{All-push}
use Rattle.crew_terms.specs.Rules.{IsTask}
use Rattle.crew_terms.specs.declared.TheConstants.{MOST_TASKS}
use Rattle.crew_terms.specs.declared.Task.{Task}
use Rattle.day_terms.specs.State.{DayState, has_task}
use Rattle.flight_changes.specs.Kept.{kept}
use Rattle.flight_changes.specs.Limits.{IsState}
use Rattle.flight_changes.proofs.Keyed.{Hold, hold_added}
use Rattle.flight_changes.proofs.States.{other_tasks}
use Rattle.flight_changes.proofs.lists.Lists.add_task.Goals as goal

holds : (c : goal.In_ok-insert) → Hold (λ t. t.name) c.insert.new.self.entries ((kept c.self.inside).tasks ++ c.args.task ∷ [])
holds c =
    let free : has_task (kept c.self.inside) c.args.task.name ≡ false = ap (λ s. has_task s c.args.task.name) c.self.view_is ∙ c.requires.new in
    hold_added (λ t. t.name) c.self.inside.tasks.entries c.insert.new.self.entries c.args.task c.self.invariant.tasks_by_name free c.in_ok-insert.ensures.entries c.in_ok-insert.ensures.unique

pub invariant_of-self-2 : goal.invariant_of-self-2
invariant_of-self-2 c =
    let s = kept c.self.inside in
    let is = c.self.invariant.state in
    let h = holds c in
    let n = length_push s.tasks c.args.task in
    let room : length s.tasks < MOST_TASKS = subst (λ s. length s.tasks < MOST_TASKS) (sym c.self.view_is) c.requires.room in
    let place : c.args.task.place < length s.places = subst (λ s. c.args.task.place < length s.places) (sym c.self.view_is) c.requires.place in
    let fits : IsTask (length s.places) c.args.task =
    record {
      name = c.bytes.ensures.name;
      place = place;
      window = c.requires.window;
      teams = c.requires.count;
      skills = omega arith;
    } in
    record {
      tasks_by_name = h.named;
      teams_by_name = c.self.invariant.teams_by_name;
      state = subst (λ ts. IsState (record s { tasks = ts })) (sym h.values) (other_tasks s is _ (omega arith) (All-push (IsTask (length s.places)) s.tasks c.args.task is.parts.tasks fits) h.apart_names);
    }

pub returns-clause-ok : goal.returns-clause-ok
returns-clause-ok c =
    let add : DayState → DayState = λ s. record s { tasks = s.tasks ++ c.args.task ∷ [] } in
    let with : List Task → DayState = λ ts. record (kept c.self.inside) { tasks = ts } in
    ap with (holds c).values ∙ ap add c.self.view_is
