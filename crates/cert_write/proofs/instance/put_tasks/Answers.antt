use Rattle.std.proofs.Common.{◌<◌, ◌≤◌, length, ap, arith}
use Rattle.crew_io.specs.Chains.{puts_nothing}
use Rattle.dossier_terms.specs.Lines.{task_line}
use Rattle.line_out.specs.Lines.{puts_line, puts_line_front, puts_lines}
use Rattle.cert_write.proofs.instance.put_tasks.Goals as goal

pub loop-j-init : goal.loop-j-init
loop-j-init g c = puts_nothing g.K.Sink c.args.out.now

pub returns-in_err-put_task : goal.returns-in_err-put_task
returns-in_err-put_task g c =
    let below : c.loop-j.j < length c.args.instance.now.tasks = (let t = c.loop-j-test.true in let e = c.tasks-j-end.ensures.count in omega arith) in
    puts_line_front g.K.Sink task_line c.args.instance.now.tasks c.loop-j.j _ below _ (ap task_line c.task.ensures.task) _ _ _ _ _ c.from_residual.result c.from_residual.ensures.0 c.loop-j.invariant c.in_err-put_task.ensures

pub loop-j-preserved : goal.loop-j-preserved
loop-j-preserved g c =
    let below : c.loop-j.j < length c.args.instance.now.tasks = (let t = c.loop-j-test.true in let e = c.tasks-j-end.ensures.count in omega arith) in
    puts_line g.K.Sink task_line c.args.instance.now.tasks c.loop-j.j _ below _ (ap task_line c.task.ensures.task) _ _ _ _ _ c.loop-j.invariant c.in_ok-put_task.ensures

pub returns : goal.returns
returns g c =
    let past : length c.args.instance.now.tasks ≤ c.loop-j.j = (let t = c.loop-j-test.false in let e = c.tasks-j-end.ensures.count in omega arith) in
    puts_lines g.K.Sink task_line c.args.instance.now.tasks c.loop-j.j _ _ _ _ past c.loop-j.invariant
