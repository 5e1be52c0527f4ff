use Rattle.day_gen.proofs.Runs.{one_more, task_more}
use Rattle.day_gen.proofs.days.add_tasks.Goals as goal

pub loop-j-preserved : goal.loop-j-preserved
loop-j-preserved c =
    rw (c.in_ok-push.ensures.items, c.task.ensures.entry, c.task.ensures.draws)
    (one_more _ _ _ _ _ c.loop-j.invariant (task_more c.loop-j.j c.args.tasks c.loop-j.generator c.loop-j-test.true))
