use Rattle.flight_changes.proofs.FirstFaults.{fault, feasible}
use Rattle.flight_changes.proofs.job_laws.first_fault_is_told.Goals as goal

pub returns-clause-fault : goal.returns-clause-fault
returns-clause-fault c i p told of first = fault i p (c.good_jobs_pass.ensures i) (c.first_clash_passes.ensures i p) told first

pub returns-clause-feasible : goal.returns-clause-feasible
returns-clause-feasible c i p = feasible i p (c.good_jobs_pass.ensures i) (c.first_clash_passes.ensures i p)
