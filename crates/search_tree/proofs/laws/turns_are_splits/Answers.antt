use Rattle.search_tree.proofs.Opening.{can_turns}
use Rattle.search_tree.proofs.laws.turns_are_splits.Goals as goal

pub returns : goal.returns
returns c = can_turns
