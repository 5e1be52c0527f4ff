use Rattle.text_laws.proofs.Read.{front_one, front_many}
use Rattle.text_laws.proofs.read_front.Goals as goal

pub returns-clause-one : goal.returns-clause-one
returns-clause-one c = front_one

pub returns-clause-many : goal.returns-clause-many
returns-clause-many c = front_many
