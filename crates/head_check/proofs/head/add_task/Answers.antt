use Rattle.std.proofs.Common.{◌≡◌, ◌<◌, suc, sym, subst, arith, Ok}
use Rattle.std.specs.Prelude.{IsTrue}
use Rattle.dossier_terms.specs.HeadTable.{after_task}
use Rattle.head_check.specs.declared.due.Head.{Head}
use Rattle.head_check.specs.Head.{HasTasksLeft, HeadTells, opening_of, read_of}
use Rattle.head_check.proofs.Steps.{given_ok}
use Rattle.head_check.proofs.HeadSteps.{task_more}
use Rattle.head_check.proofs.head.add_task.Goals as goal

pub returns : goal.returns
returns c =
    let b : Head = c.deref_mut-held.result.now in
    let e : b ≡ c.args.head.value = c.deref_mut-held.ensures.value in
    let held : HasTasksLeft b (suc c.args.more) = subst (λ (h : Head). HasTasksLeft h (suc c.args.more)) (sym e) c.requires.held in
    let head = held.2 in
    let few = head.size.tasks in
    let read = head.tasks in
    let all = held.1 in
    let took : c.task.result ≡ Ok tt = given_ok _ _ _ _ c.map_err.ensures.cases c.in_ok-map_err.was in
    let added = rw took at c.task.ensures.ok in
    let rises : IsTrue c.args.rises = c.if-not-rises.false in
    subst (λ (h : Head). HeadTells (after_task (opening_of h) c.args.more (read_of h) c.args.task (IsTrue c.args.rises)) c.due_tasks.result) e
    (task_more (opening_of b) c.args.more b.builder c.task.new.self b.size.places c.args.task (IsTrue c.args.rises) c.due_tasks.result
    rises (omega arith) head.places (subst (λ (h : Head). c.args.task.place < h.size.places) (sym e) c.requires.place)
    (λ h. let e = (c.task.ensures.same_name).1 h in cc) (λ h. let e = (c.task.ensures.bad_window).1 (h.0, (h.1, h.2)) in cc) added c.due_tasks.ensures)
