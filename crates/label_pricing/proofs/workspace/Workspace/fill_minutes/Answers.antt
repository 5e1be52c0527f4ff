use Rattle.potentials.specs.Table.{phi}
use Rattle.label_pricing.proofs.workspace.Workspace.fill_minutes.Goals as goal

pub returns-clause-holds : goal.returns-clause-holds
returns-clause-holds g c worth is =
    c.best_potentials_hold.ensures c.args.limits.now.limits c.args.k (g.R.Rewards.earned c.args.limits.now.limits c.args.prices.now c.args.k) (phi c.fill_minutes.new.table) worth c.fill_minutes.ensures.best is
