use Rattle.std.proofs.Common.{sym, ◌∙◌}
use Rattle.std.proofs.lemmas.Bool.{not-true}
use Rattle.column_scout.proofs.Fresh.{none_same}
use Rattle.column_scout.proofs.hand_over.is_other.Goals as goal

pub returns : goal.returns
returns c = λ t. none_same c.args.routes.now c.args.route.now (sym c.contains.ensures.value ∙ not-true c.contains.result t)
