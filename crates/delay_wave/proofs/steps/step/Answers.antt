use Rattle.std.proofs.Common.{arith}
use Rattle.delay_wave.specs.declared.steps.TheConstants.{LATEST}
use Rattle.delay_wave.proofs.steps.step.Goals as goal

pub overflow_add-wait : goal.overflow_add-wait
overflow_add-wait c =
    let by = c.wait_of-wait.ensures.limit LATEST (let s = c.requires.start in omega arith) c.requires.last in
    let short = c.task.ensures.limits.window.minutes in omega arith
