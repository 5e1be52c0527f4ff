use Rattle.std.proofs.Common.{sym, subst, ◌∙◌}
use Rattle.column_scout.proofs.Fresh.{none_same}
use Rattle.column_scout.proofs.hand_over.is_not_held.Goals as goal
use Rattle.route_terms.specs.Routes.{IsNew}
use Rattle.std.proofs.lemmas.Bool.{not-true}

pub returns : goal.returns
returns g c = λ t. subst (λ cs. IsNew cs c.args.route.now) c.requires
    (none_same c.args.held.now c.args.route.now (sym c.contains.ensures.value ∙ not-true c.contains.result t))
