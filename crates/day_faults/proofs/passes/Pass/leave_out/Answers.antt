use Rattle.day_faults.proofs.Goes.{goes_on_with}
use Rattle.day_faults.proofs.passes.Pass.leave_out.Goals as goal

pub returns-clause-more : goal.returns-clause-more
returns-clause-more c = goes_on_with _ _ _ c.in_ok-add.ensures
