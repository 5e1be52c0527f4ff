use Rattle.cert_format.proofs.Faults.{fault_says}
use Rattle.cert_format.proofs.laws.fault_is_refused.Goals as goal

pub returns : goal.returns
returns c = fault_says
