use Rattle.std.proofs.Common.{ap}
use Rattle.tree_walk.proofs.Somewhere.{at_root}
use Rattle.node_tests.proofs.walks.walks_a_small_tree.Goals as goal

pub split_window-requires : goal.split_window-requires
split_window-requires g c = at_root _ _ c.in_ok-walk.ensures.root (ap (λ t. t.past) c.in_ok-limits.ensures)
