use Rattle.day_terms.proofs.Places.{records_say}
use Rattle.day_terms.proofs.laws.entries_are_said_by_place.Goals as goal

pub returns : goal.returns
returns c = records_say
