use Rattle.search_laws.proofs.Worths.{have_potentials}
use Rattle.search_laws.proofs.prices_have_potentials.Goals as goal

pub returns : goal.returns
returns c = have_potentials
