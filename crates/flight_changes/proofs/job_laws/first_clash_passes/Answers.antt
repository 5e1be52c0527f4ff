use Rattle.flight_changes.proofs.Clashes.{first_clash_decides}
use Rattle.flight_changes.proofs.job_laws.first_clash_passes.Goals as goal

pub returns : goal.returns
returns c = first_clash_decides
