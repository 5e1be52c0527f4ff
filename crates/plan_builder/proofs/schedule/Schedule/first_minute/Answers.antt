use Rattle.std.proofs.Common.{◌≡◌, ap, arith, ◌∙◌}
use Rattle.crew_terms.specs.Instance.{Instance, task_of}
use Rattle.crew_terms.specs.declared.Task.{Task}
use Rattle.plan_builder.proofs.Filled.{short_more, nowhere_from}
use Rattle.plan_builder.proofs.schedule.Schedule.first_minute.Goals as goal

pub loop-t-preserved : goal.loop-t-preserved
loop-t-preserved c =
    let is : c.task-task.result.now ≡ task_of c.args.self.now.instance c.args.j = c.task-task.ensures.task ∙ ap (λ (i : Instance). task_of i c.args.j) c.instance.ensures.instance in
    let teams = ap (λ (j : Task). j.teams) is in
    short_more c.args.self.now c.args.j c.loop-t.t c.loop-t.invariant (record {
      free = c.free_teams-free.result.items;
      are = c.free_teams-free.ensures;
      few = let a = c.if-len-task.false in let b = c.len.ensures.value in omega arith;
    })

pub returns : goal.returns
returns c =
    let is : c.task-task.result.now ≡ task_of c.args.self.now.instance c.args.j = c.task-task.ensures.task ∙ ap (λ (i : Instance). task_of i c.args.j) c.instance.ensures.instance in
    let latest = ap (λ (j : Task). j.latest) is in
    nowhere_from c.args.self.now c.args.j c.loop-t.t (let a = c.loop-t-test.false in omega arith) c.loop-t.invariant
