use Rattle.std.proofs.Common.{refl}
use Rattle.plan_chart.specs.Looks.{look_of}
use Rattle.plan_chart.proofs.looks.look_of.Goals as goal

pub returns : goal.returns
unfolding look_of
returns c = rw (c.is_joint.ensures, c.joint_before.ensures.count, c.is_fixed.ensures, c.change_of_task.ensures, c.task.ensures.task) refl
