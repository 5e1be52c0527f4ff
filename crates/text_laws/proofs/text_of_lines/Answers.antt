use Rattle.text_laws.proofs.Read.{made_one, made_many}
use Rattle.text_laws.proofs.text_of_lines.Goals as goal

pub returns-clause-one : goal.returns-clause-one
returns-clause-one c = made_one

pub returns-clause-many : goal.returns-clause-many
returns-clause-many c = made_many
