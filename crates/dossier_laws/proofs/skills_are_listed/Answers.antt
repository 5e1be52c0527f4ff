use Rattle.dossier_laws.proofs.Skills.{skills_listed}
use Rattle.dossier_laws.proofs.skills_are_listed.Goals as goal

pub returns : goal.returns
returns c = skills_listed
