use Rattle.std.proofs.Common.{ap}
use Rattle.node_limits.specs.Trail.{Trail}
use Rattle.tree_walk.proofs.Somewhere.{entered}
use Rattle.node_tests.proofs.walks.split_window.Goals as goal

pub returns : goal.returns
returns c = entered _ _ _ _ _ _ c.enter.ensures.enters (ap (λ (t : Trail). t.limits) c.in_ok-reserve.ensures.ok) (ap (λ (t : Trail). t.past) c.in_ok-reserve.ensures.ok) c.requires
