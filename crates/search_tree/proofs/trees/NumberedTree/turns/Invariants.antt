use Rattle.std.proofs.Common.{◌≡◌, ◌<◌, ◌++◌, length}
use Rattle.std.specs.Prelude.{reverse}
use Rattle.search_tree.specs.Ways.{turns_of}
use Rattle.search_tree.proofs.trees.NumberedTree.turns.Given as goal

abbrev pub invariant-loop-at : goal.invariant-loop-at
invariant-loop-at l = record {
  known : l.at < length l.self;
  so_far : turns_of l.self l.n ≡ turns_of l.self l.at ++ reverse l.turns.items;
}

abbrev pub decreases-loop-at : goal.decreases-loop-at
decreases-loop-at l = l.at
