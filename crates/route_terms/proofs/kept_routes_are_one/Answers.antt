use Rattle.route_terms.proofs.KeptLaws.{one_kept}
use Rattle.route_terms.proofs.kept_routes_are_one.Goals as goal

pub returns : goal.returns
returns c n carried kept more is a b = one_kept n is carried kept more a b
