use Rattle.std.proofs.Common.{ap}
use Rattle.tree_walk.proofs.Somewhere.{at_root}
use Rattle.node_tests.proofs.walks.walks_a_deep_tree.Goals as goal

pub go_down-requires-clause-somewhere : goal.go_down-requires-clause-somewhere
go_down-requires-clause-somewhere g c = at_root _ _ c.in_ok-walk.ensures.root (ap (λ t. t.past) c.in_ok-limits.ensures)
