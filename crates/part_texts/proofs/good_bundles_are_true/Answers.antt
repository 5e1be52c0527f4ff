use Rattle.part_texts.proofs.Bounds.{bundle_is_true}
use Rattle.part_texts.proofs.good_bundles_are_true.Goals as goal

pub returns : goal.returns
returns c = bundle_is_true c.good_bounds.ensures c.restricted_plans_are_legal.ensures c.open_tasks_of_parts_add.ensures
