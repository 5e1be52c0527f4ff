use Rattle.part_texts.proofs.OneMore.{front_parts, last_part, more_parts, only_new}
use Rattle.part_texts.proofs.one_more_part.Goals as goal

pub returns-clause-more : goal.returns-clause-more
returns-clause-more c = more_parts

pub returns-clause-some : goal.returns-clause-some
returns-clause-some c = λ i ds d are. last_part i ds d are.1.parts are.1.instances are.1.disjoint.each

pub returns-clause-only : goal.returns-clause-only
returns-clause-only c = only_new c.one_division.ensures

pub returns-clause-front : goal.returns-clause-front
returns-clause-front c = front_parts
