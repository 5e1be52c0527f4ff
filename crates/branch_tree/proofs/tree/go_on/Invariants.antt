use Rattle.std.proofs.Common.{◌≡◌, ◌+◌, length, reverse}
use Rattle.branch_tree.specs.Levels.{next_node}
use Rattle.branch_tree.proofs.tree.go_on.Given as goal

abbrev pub invariant-loop : goal.invariant-loop
invariant-loop l = record {
  same : next_node (reverse l.above.items) ≡ next_node (reverse l.initial.above.items);
  left : length l.above.items + l.counter ≡ length l.initial.above.items;
}
