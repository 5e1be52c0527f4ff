use Rattle.search_tree.proofs.Levels.{grown_subtree}
use Rattle.search_tree.proofs.laws.subtrees_are_grown.Goals as goal

pub returns-clause-grown : goal.returns-clause-grown
returns-clause-grown c = grown_subtree

pub returns-clause-children : goal.returns-clause-children
returns-clause-children c = λ nodes n m side a l is. a.children n m side l is
