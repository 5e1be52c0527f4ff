use Rattle.crew_terms.specs.Leaf.{earned}
use Rattle.potentials.specs.Table.{phi}
use Rattle.label_pricing.proofs.workspace.Workspace.fill.Goals as goal

pub returns-clause-holds : goal.returns-clause-holds
returns-clause-holds c worth is =
    c.best_potentials_hold.ensures c.args.limits.now.limits c.args.k (earned c.args.prices.now c.args.k) (phi c.fill.new.table) worth c.fill.ensures.best is
