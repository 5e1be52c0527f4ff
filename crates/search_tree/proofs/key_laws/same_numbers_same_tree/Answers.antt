use Rattle.std.proofs.Common.{length}
use Rattle.search_tree.proofs.Numbered.{same_tree}
use Rattle.search_tree.proofs.key_laws.same_numbers_same_tree.Goals as goal

pub returns : goal.returns
returns c = λ prices causes p q a b nodes some has e f. same_tree prices causes p q a b nodes some has e f (length nodes) 0
