use Rattle.std.proofs.Common.{ap, arith}
use Rattle.std.specs.List.{flat_map, range_with_len}
use Rattle.crew_io.specs.Chains.{puts_then}
use Rattle.each_out.specs.Laws.{cut_first, puts_as}
use Rattle.plan_chart.specs.RowTexts.{open_row}
use Rattle.plan_chart.specs.Jobs.{job_text}
use Rattle.plan_chart.specs.Drawings.{work_of}
use Rattle.plan_chart.proofs.drawings.put_work.Goals as goal

pub put_numbered-requires : goal.put_numbered-requires
put_numbered-requires g c = λ k within.
    let count = c.tasks-tasks.ensures.count in
    let whole = c.requires.feasible.whole in
    (c.tasks-tasks.ensures.limits, c.requires, omega (arith, within, count, whole))

pub put_numbered-requires-2 : goal.put_numbered-requires-2
put_numbered-requires-2 g c = λ k within.
    let count = c.tasks-tasks.ensures.count in
    let whole = c.requires.feasible.whole in
    (omega (arith, within, count, whole), whole)

pub returns-in_err-put_numbered : goal.returns-in_err-put_numbered
unfolding work_of
returns-in_err-put_numbered g c =
    cut_first g.K.Sink _ _ _ _ _ c.from_residual.result c.from_residual.ensures.0
    (puts_as g.K.Sink _ _ _ _ _ c.in_err-put_numbered.ensures
    (ap (λ n. flat_map (job_text c.args.instance.now c.args.plan.now c.args.before.now c.args.now.now) (range_with_len 0 n)) c.tasks-tasks.ensures.count))

pub returns : goal.returns
unfolding work_of
returns g c =
    puts_then g.K.Sink _ _ _ _ _ _ _
    (puts_as g.K.Sink _ _ _ _ _ c.in_ok-put_numbered.ensures
    (ap (λ n. flat_map (job_text c.args.instance.now c.args.plan.now c.args.before.now c.args.now.now) (range_with_len 0 n)) c.tasks-tasks.ensures.count))
    (puts_as g.K.Sink _ _ _ _ _ c.put_numbered-2.ensures (ap (λ n. flat_map (open_row c.args.instance.now c.args.plan.now c.args.left) (range_with_len 0 n)) c.tasks-tasks.ensures.count))
