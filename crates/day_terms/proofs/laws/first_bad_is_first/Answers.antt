use Rattle.day_terms.proofs.Fields.{first_bad}
use Rattle.day_terms.proofs.laws.first_bad_is_first.Goals as goal

pub returns : goal.returns
returns c = first_bad
