use Rattle.std.proofs.Common.{rules, arith, sym, ◌≡◌, ◌∙◌, length}
use Rattle.crew_terms.specs.Instance.{no_task}
use Rattle.same_instance.proofs.OneInstance.{one_list}
use Rattle.same_instance.proofs.same.have_same_tasks.Goals as goal

pub returns : goal.returns
returns c =
    let a = c.args.a.now in
    let b = c.args.b.now in
    let e : length a.tasks ≡ length b.tasks = sym c.tasks.ensures.count ∙ c.if-tasks.false ∙ c.tasks-2.ensures.count in
    (λ _. one_list no_task a.tasks b.tasks c.loop-j.j e (omega (arith, c.tasks-j-end.ensures.count)) c.loop-j.invariant, λ _. search rules)
