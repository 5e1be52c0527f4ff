use Rattle.crew_instance.proofs.Decides.{decides}
use Rattle.crew_instance.proofs.feasible.feasibility_in.Goals as goal

pub returns-in-Some-clause-feasible : goal.returns-in-Some-clause-feasible
returns-in-Some-clause-feasible c = decides c.args.instance.now c.args.plan.now c.in-Some.fault c.in-Some.ensures

pub returns-in-Some-fault_of_teams-clause-feasible : goal.returns-in-Some-fault_of_teams-clause-feasible
returns-in-Some-fault_of_teams-clause-feasible c = decides c.args.instance.now c.args.plan.now c.in-Some-fault_of_teams.fault c.in-Some-fault_of_teams.ensures.verdict
