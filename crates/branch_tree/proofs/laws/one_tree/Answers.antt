use Rattle.branch_tree.proofs.Preorders.{one_preorder}
use Rattle.branch_tree.proofs.laws.one_tree.Goals as goal

pub returns : goal.returns
returns c = one_preorder
