use Rattle.std.proofs.Common.{◌∙◌}
use Rattle.leaf_check.proofs.Minutes.{found}
use Rattle.leaf_check.proofs.keys.is_open.Goals as goal

pub returns : goal.returns
returns c =
    c.is_some.ensures ∙ found c.minutes_are_permitted.ensures c.args.limits.now.limits c.args.k c.args.j c.minutes.result c.requires.task c.minutes.ensures.exact
