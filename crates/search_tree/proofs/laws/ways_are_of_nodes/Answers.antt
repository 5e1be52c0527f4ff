use Rattle.search_tree.proofs.Opening.{open_nodes, open_ways, one_way, limits_of_nodes}
use Rattle.search_tree.proofs.laws.ways_are_of_nodes.Goals as goal

pub returns-clause-leads : goal.returns-clause-leads
returns-clause-leads c = λ p q nodes n prices a l is. (open_nodes p q nodes n prices a l is).0

pub returns-clause-prices : goal.returns-clause-prices
returns-clause-prices c = λ p q nodes n prices a l is. (open_nodes p q nodes n prices a l is).1

pub returns-clause-only : goal.returns-clause-only
returns-clause-only c = open_ways

pub returns-clause-one : goal.returns-clause-one
returns-clause-one c = one_way

pub returns-clause-limits : goal.returns-clause-limits
returns-clause-limits c = limits_of_nodes
