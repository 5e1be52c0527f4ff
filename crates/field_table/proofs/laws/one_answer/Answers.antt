use Rattle.field_table.proofs.Once.{one_spelling, one_word, one_reading}
use Rattle.field_table.proofs.laws.one_answer.Goals as goal

pub returns-clause-spells : goal.returns-clause-spells
returns-clause-spells c = one_spelling

pub returns-clause-word : goal.returns-clause-word
returns-clause-word c = one_word

pub returns-clause-row : goal.returns-clause-row
returns-clause-row c = one_reading
