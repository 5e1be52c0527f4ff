use Rattle.search_laws.proofs.Potentials.{potential, greatest_worth, holds, reached, from_visit}
use Rattle.search_laws.proofs.Worths.{positive}
use Rattle.search_laws.proofs.potentials_are_attained.Goals as goal

pub returns : goal.returns
returns c n k w is =
    let some = positive n.instance is in
    (potential n some k w, greatest_worth n some k w, holds n some k w, reached n some k w, from_visit n some k w)
