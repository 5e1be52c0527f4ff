use Rattle.std.proofs.Common.{length}
use Rattle.search_tree.specs.declared.nodes.Content.TheVariants as content
use Rattle.search_tree.specs.Numbered.{node_of, with_children}
use Rattle.search_tree.proofs.Numbered.{root_numbers, content_numbers, children_numbers, more_number}
use Rattle.search_tree.proofs.key_laws.numbers_stay.Goals as goal

pub returns-clause-root : goal.returns-clause-root
returns-clause-root c = root_numbers

pub returns-clause-closed : goal.returns-clause-closed
returns-clause-closed c = λ prices causes n k nodes has l. content_numbers prices causes n (content.Closed k) nodes has l

pub returns-clause-split : goal.returns-clause-split
returns-clause-split c = λ prices causes n k cause choice nodes has l h.
    content_numbers prices causes n (content.Split choice cause (length nodes)) (with_children nodes n k)
    (children_numbers prices causes n k nodes has l) h

pub returns-clause-more : goal.returns-clause-more
returns-clause-more c = λ prices causes more most nodes l h has n. more_number prices causes more most (node_of nodes n).content l h (has n)
