use Rattle.day_terms.proofs.Skills.{skill, unskill}
use Rattle.day_terms.proofs.laws.one_skill_changes.Goals as goal

pub returns-clause-skill : goal.returns-clause-skill
returns-clause-skill c = skill

pub returns-clause-unskill : goal.returns-clause-unskill
returns-clause-unskill c = unskill
