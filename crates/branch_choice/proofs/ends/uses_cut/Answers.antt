use Rattle.std.proofs.Common.{ap, length, below_more, arith}
use Rattle.branch_choice.specs.Uses.{HasTwoStarts}
use Rattle.branch_choice.proofs.Cuts.{are_known, cut_between, one_start, starts_below}
use Rattle.branch_choice.proofs.ends.uses_cut.Goals as goal

pub ends_by_task-ends-requires : goal.ends_by_task-ends-requires
ends_by_task-ends-requires c =
    are_known c.args.uses.now c.args.limits.now.limits c.requires 400 c.instance.ensures.is_instance.parts.few_tasks

pub bounds-ends-task : goal.bounds-ends-task
bounds-ends-task c =
    let a = ap (λ i. length i.tasks) c.instance.ensures.instance in
    let b = c.instance.ensures.is_instance.parts.few_tasks in
    omega arith

pub returns-in-Some : goal.returns-in-Some
returns-in-Some c =
    let a = ap (λ i. length i.tasks) c.instance.ensures.instance in
    let b = c.instance.ensures.is_instance.parts.few_tasks in
    cut_between c.args.uses.now c.loop-task.task c.in-Some.cut _ (c.ends_by_task-ends.ensures c.loop-task.task (omega arith)) c.in-Some.ensures c.loop-task.invariant

pub loop-task-preserved : goal.loop-task-preserved
loop-task-preserved c =
    let a = ap (λ i. length i.tasks) c.instance.ensures.instance in
    let b = c.instance.ensures.is_instance.parts.few_tasks in
    below_more (λ h. HasTwoStarts c.args.uses.now h → ⊥) _ c.loop-task.invariant
    (one_start c.args.uses.now c.loop-task.task _ (c.ends_by_task-ends.ensures c.loop-task.task (omega arith)) c.in_default.ensures)

pub returns : goal.returns
returns c = λ j two. let n = ap (λ i. length i.tasks) c.instance.ensures.instance in let a = starts_below c.args.uses.now c.args.limits.now.limits c.requires j two in let b = c.loop-task-test.false in c.loop-task.invariant j (omega arith) two
