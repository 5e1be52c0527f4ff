use Rattle.std.proofs.Common.{arith}
use Rattle.dossier_laws.proofs.met_bound_is_best.Goals as goal

pub returns : goal.returns
returns c d p h met legal = let a = c.good_bounds.ensures d p h legal in omega arith
