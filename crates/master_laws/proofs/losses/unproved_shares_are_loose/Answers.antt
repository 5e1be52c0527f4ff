use Rattle.crew_terms.specs.Leaf.{bound_of}
use Rattle.search_terms.specs.BasicChoice.{choice_of}
use Rattle.master_laws.proofs.Loose.{loose}
use Rattle.master_laws.proofs.losses.unproved_shares_are_loose.Goals as goal

pub returns : goal.returns
returns c = λ n routes made t prices worths whole x now is run done legal rounded worth unbeaten parts some unproved.
    loose n (choice_of n routes whole x) (bound_of n prices worths) now some unproved
    (c.rounded_prices_are_near.ensures n routes made t prices worths whole x is run done legal rounded worth unbeaten parts)
