use Rattle.dossier_laws.proofs.tree_numbers_fit.Goals as goal
use Rattle.dossier_terms.specs.Counted.{leaves_of, depth_le}

pub returns : goal.returns
returns c t = (leaves_of t, depth_le t)
