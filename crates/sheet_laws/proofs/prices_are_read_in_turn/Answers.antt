use Rattle.sheet_laws.proofs.Priced.{all_priced, none_priced, one_priced}
use Rattle.sheet_laws.proofs.prices_are_read_in_turn.Goals as goal

pub returns-clause-none : goal.returns-clause-none
returns-clause-none c = none_priced

pub returns-clause-more : goal.returns-clause-more
returns-clause-more c = one_priced

pub returns-clause-all : goal.returns-clause-all
returns-clause-all c = all_priced
