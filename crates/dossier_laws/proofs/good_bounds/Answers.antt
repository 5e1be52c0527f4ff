use Rattle.crew_terms.specs.Limits.{root_limits}
use Rattle.crew_terms.specs.Plan.{unassigned_count}
use Rattle.dossier_terms.specs.Dossier.{tree_of}
use Rattle.dossier_laws.proofs.good_bounds.Goals as goal

pub returns : goal.returns
returns c d p h legal = c.tree_proves.ensures (tree_of (root_limits d.instance) d.tree) (root_limits d.instance) d.bound (unassigned_count d.plan) p (c.root_is_limits.ensures d.instance h.instance) h.sound legal (c.root_has_legal_plans.ensures d.instance p legal)
