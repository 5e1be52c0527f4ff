use Rattle.search_laws.proofs.Inside.{inside_proves, child_proves, shape_of}
use Rattle.search_laws.proofs.prices_prove_inside.Goals as goal

pub returns-clause-inside : goal.returns-clause-inside
returns-clause-inside c = inside_proves

pub returns-clause-children : goal.returns-clause-children
returns-clause-children c = λ n choice side prices l is can h. child_proves n choice side prices l (shape_of n is) can h
