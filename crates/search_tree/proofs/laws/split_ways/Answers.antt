use Rattle.search_tree.proofs.Numbering.{first_way, second_way}
use Rattle.search_tree.proofs.laws.split_ways.Goals as goal

pub returns-clause-first : goal.returns-clause-first
returns-clause-first c = first_way

pub returns-clause-second : goal.returns-clause-second
returns-clause-second c = second_way
