use Rattle.std.proofs.Common.{◌∙◌}
use Rattle.plan_day_tests.proofs.few_pivots.take_steps.Goals as goal

pub loop-key-preserved : goal.loop-key-preserved
loop-key-preserved c = c.in_ok-step_with.ensures.ok.instance ∙ c.loop-key.invariant
