use Rattle.route_terms.specs.NameLaws.{one_route}
use Rattle.route_terms.proofs.names_mean_one_route.Goals as goal

pub returns : goal.returns
returns c i r s is a b e = one_route i is r s a b e
