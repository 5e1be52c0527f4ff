use Rattle.day_terms.proofs.Places.{words_spell}
use Rattle.day_terms.proofs.laws.numbers_are_spelled_by_place.Goals as goal

pub returns : goal.returns
returns c = words_spell
