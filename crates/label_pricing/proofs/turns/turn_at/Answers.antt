use Rattle.std.proofs.Common.{arith, ap, ◌∙◌}
use Rattle.crew_terms.specs.Instance.{task_of}
use Rattle.crew_terms.specs.declared.Task.{Task}
use Rattle.label_pricing.proofs.turns.turn_at.Goals as goal

pub returns-in-Some : goal.returns-in-Some
returns-in-Some c =
    let n = c.args.limits.now.limits in
    let is = c.in-Some.ensures.exact in
    let e = c.task-task.ensures.task ∙ ap (λ i. task_of i c.args.j) c.instance.ensures.instance in
    let late = c.in-Some.ensures.late in
    let window = c.instance.ensures.limits in
    record {
      place = ap (λ (t : Task). t.place) e;
      minutes = ap (λ (t : Task). t.minutes) e;
      each = λ u. (λ here. let a = (is.each u).0 here in let b = a.1 in (a.0, omega arith), λ b. (is.each u).1 (b.0, let l = b.1 in omega arith));
      day = let a = c.task-task.ensures.limits.window.day in let f = ap (λ (t : Task). t.latest) e in omega arith;
    }
