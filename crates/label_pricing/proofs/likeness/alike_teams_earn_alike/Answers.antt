use Rattle.label_pricing.proofs.Twins.{route_too, rewards_same, worth_too}
use Rattle.label_pricing.proofs.likeness.alike_teams_earn_alike.Goals as goal

pub returns-clause-routes : goal.returns-clause-routes
returns-clause-routes c n k h r is route = route_too n k h is r route

pub returns-clause-rewards : goal.returns-clause-rewards
returns-clause-rewards c n k h p r is priced route = rewards_same n k h is p priced r route

pub returns-clause-worths : goal.returns-clause-worths
returns-clause-worths c n k h p v is priced worth = worth_too n k h p v is priced worth
