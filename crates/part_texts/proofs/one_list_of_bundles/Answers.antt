use Rattle.part_texts.proofs.First.{one_list}
use Rattle.part_texts.proofs.one_list_of_bundles.Goals as goal

pub returns : goal.returns
returns c = one_list c.one_bundle_first.ensures
