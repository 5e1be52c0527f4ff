use Rattle.dossier_laws.proofs.Spellings.{prices_one, worth_one, steps_one}
use Rattle.dossier_laws.proofs.numbers_are_told_apart.Goals as goal

pub returns-clause-prices : goal.returns-clause-prices
returns-clause-prices c = prices_one

pub returns-clause-worths : goal.returns-clause-worths
returns-clause-worths c = worth_one

pub returns-clause-runs : goal.returns-clause-runs
returns-clause-runs c = steps_one
