use Rattle.search_tree.proofs.Numbering.{has_split}
use Rattle.search_tree.proofs.laws.splits_are_put.Goals as goal

pub returns : goal.returns
returns c = λ nodes n cause prices choice l. has_split nodes n choice cause prices l
