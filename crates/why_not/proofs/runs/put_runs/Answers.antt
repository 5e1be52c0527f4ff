use Rattle.std.proofs.Common.{◌≡◌, ◌≤◌, ◌<◌, ◌+◌, ◌-◌, ◌++◌, [], ap, subst, sym, ◌∙◌, arith, append_assoc}
use Rattle.std.specs.List.{flat_map}
use Rattle.crew_terms.specs.Instance.{task_of}
use Rattle.crew_terms.specs.Words.{line_text}
use Rattle.crew_terms.specs.declared.Task.{Task}
use Rattle.crew_io.specs.Chains.{puts_done, puts_front, puts_nothing, puts_same, puts_then}
use Rattle.why_not.specs.Fits.{obstacles_at}
use Rattle.why_not.specs.Why.{ended_run, run_lines, run_start, run_words}
use Rattle.why_not.proofs.Rows.{done_more, last_run, rest, run_step, start_within}
use Rattle.why_not.proofs.runs.put_runs.Goals as goal

pub loop-t-init : goal.loop-t-init
loop-t-init g c =
    let i = c.args.days.now.instance in
    let p = c.args.days.now.plan in
    let same = c.task-task.ensures.task ∙ ap (λ x. task_of x c.args.j) c.instance.ensures.instance in
    let e = ap (λ (t : Task). t.earliest) same in
    let late = ap (λ (t : Task). t.latest) same in
    let order = c.task-task.ensures.limits.window.order in
    let n : c.task-task.result.now.earliest ≡ c.task-task.result.now.earliest + 1 - 1 = omega arith in
    record {
      done = [];
      puts = puts_nothing g.K.Sink c.args.out.now;
      whole = ap (λ n. rest i p c.args.j n (n + 1)) e;
      row = c.row.ensures.row ∙ ap (obstacles_at i p c.args.j) n;
      first = omega arith;
      one = omega arith;
    }

pub returns-in_err-put_if_over : goal.returns-in_err-put_if_over
returns-in_err-put_if_over g c =
    let i = c.args.days.now.instance in
    let p = c.args.days.now.plan in
    let j = c.args.j in
    let t = c.loop-t.t in
    let first = c.loop-t.run.first in
    let inv = c.loop-t.invariant in
    let late = ap (λ (x : Task). x.latest) (c.task-task.ensures.task ∙ ap (λ x. task_of x j) c.instance.ensures.instance) in
    let within : t < (task_of i j).latest + 1 = (let l = c.loop-t-test.true in omega arith) in
    puts_front g.K.Sink _ _ _ _ _ c.from_residual.result c.from_residual.ensures.0
    (puts_then g.K.Sink inv.done (ended_run i p j first t) _ _ _ _ _ inv.puts c.in_err-put_if_over.ensures.text)
    (record {
      rest = rest i p j (run_start i p j first t) (t + 1);
      is = sym inv.whole ∙ ap (λ x. inv.done ++ x) (run_step i p j first t within) ∙ sym (append_assoc inv.done (ended_run i p j first t) (rest i p j (run_start i p j first t) (t + 1)));
    })

pub loop-t-preserved : goal.loop-t-preserved
loop-t-preserved g c =
    let i = c.args.days.now.instance in
    let p = c.args.days.now.plan in
    let j = c.args.j in
    let t = c.loop-t.t in
    let first = c.loop-t.run.first in
    let inv = c.loop-t.invariant in
    let late = ap (λ (x : Task). x.latest) (c.task-task.ensures.task ∙ ap (λ x. task_of x j) c.instance.ensures.instance) in
    let within : t < (task_of i j).latest + 1 = (let l = c.loop-t-test.true in omega arith) in
    let n : t ≡ t + 1 - 1 = omega arith in
    record {
      done = inv.done ++ ended_run i p j first t;
      puts = puts_done g.K.Sink _ _ _ _ _ (puts_then g.K.Sink inv.done (ended_run i p j first t) _ _ _ _ _ inv.puts c.in_ok-put_if_over.ensures.text);
      whole =
          ap (λ f. (inv.done ++ ended_run i p j first t) ++ rest i p j f (t + 1)) c.in_ok-put_if_over.ensures.first
          ∙ done_more inv.done (ended_run i p j first t) (rest i p j first t) (rest i p j (run_start i p j first t) (t + 1)) (flat_map line_text (run_lines i p j)) inv.whole (run_step i p j first t within);
      row = c.in_ok-put_if_over.ensures.row ∙ ap (obstacles_at i p j) n;
      first = subst (λ f. f ≤ (task_of i j).latest) (sym c.in_ok-put_if_over.ensures.first) (start_within i p j first t inv.first (omega arith));
      one = omega arith;
    }

pub returns : goal.returns
returns g c =
    let i = c.args.days.now.instance in
    let p = c.args.days.now.plan in
    let j = c.args.j in
    let t = c.loop-t.t in
    let first = c.loop-t.run.first in
    let inv = c.loop-t.invariant in
    let late = ap (λ (x : Task). x.latest) (c.task-task.ensures.task ∙ ap (λ x. task_of x j) c.instance.ensures.instance) in
    let over : (task_of i j).latest + 1 ≤ t = (let l = c.loop-t-test.false in omega arith) in
    puts_same g.K.Sink _ _ _ _ _
    (ap (λ l. inv.done ++ line_text (run_words i p j first l)) late ∙ ap (λ x. inv.done ++ x) (sym (last_run i p j first t over)) ∙ inv.whole)
    (puts_then g.K.Sink inv.done (line_text (run_words i p j first c.task-task.result.now.latest)) _ _ _ _ _ inv.puts c.put_run.ensures)
