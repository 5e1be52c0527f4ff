use Rattle.dossier_laws.proofs.Sound.{ended_good}
use Rattle.dossier_laws.proofs.read_is_good.Goals as goal

pub returns : goal.returns
returns c lines d h = let a = ended_good lines d h in record { spelled = a.0; good = a.1 }
