use Rattle.master_run.proofs.Rounded.{all_rounded, zero_on_required}
use Rattle.master_run.proofs.run.Run.prices.Goals as goal

pub round_tasks-requires-clause-required : goal.round_tasks-requires-clause-required
round_tasks-requires-clause-required c = zero_on_required c.args.limits.now.limits c.in_ok-prices.prices c.in_ok-prices.ensures.zeros

pub returns-clause-rounded : goal.returns-clause-rounded
returns-clause-rounded c =
    let n = c.args.limits.now.limits in
    all_rounded n c.args.self.now.master.rows c.round_tasks.new.prices c.round_teams.new.prices
    (λ j has. (c.places_are.ensures.tasks n j).0 has)
    (λ k j has. let is = (c.places_are.ensures.pairs n k j).0 has in (is.0, is.1))
    c.in_ok-round_tasks.ensures.rounded c.round_teams.ensures.keeps c.round_teams.ensures.required c.in_ok-round_teams.ensures.here
