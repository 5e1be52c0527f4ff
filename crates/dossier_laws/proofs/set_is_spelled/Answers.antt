use Rattle.dossier_laws.proofs.Skills.{skills_rise, skills_known, mask_again}
use Rattle.dossier_laws.proofs.set_is_spelled.Goals as goal

pub returns : goal.returns
returns c mask l = (record { rising = skills_rise mask; known = skills_known mask }, mask_again mask l)
