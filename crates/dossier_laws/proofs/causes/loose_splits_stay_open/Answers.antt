use Rattle.crew_terms.specs.Limits.{root_limits}
use Rattle.crew_terms.specs.Plan.{unassigned_count}
use Rattle.dossier_laws.proofs.Shown.{each_open}
use Rattle.dossier_laws.proofs.causes.loose_splits_stay_open.Goals as goal

pub returns : goal.returns
returns c d h = each_open c.loose_choices_bound_prices.ensures d.form d.pool (root_limits d.instance) (unassigned_count d.plan) d.tree h.causes
