use Rattle.std.proofs.Common.{◌∙◌}
use Rattle.leaf_check.proofs.Priced.{required_length}
use Rattle.leaf_check.proofs.keys.required_count.Goals as goal

pub returns : goal.returns
returns c = c.required.ensures.count ∙ required_length c.args.limits.now.limits c.args.j c.instance-rows.ensures.limits.rows
