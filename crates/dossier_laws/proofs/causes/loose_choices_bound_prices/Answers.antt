use Rattle.crew_terms.specs.Leaf.{bound_of}
use Rattle.dossier_laws.proofs.LooseBound.{loose_bound}
use Rattle.dossier_laws.proofs.causes.loose_choices_bound_prices.Goals as goal

pub returns : goal.returns
returns c = λ n prices worths phi choice now valid is some loose.
    loose_bound n choice now (bound_of n prices worths) is.some some loose (c.no_leaf_beats_a_choice.ensures n prices worths phi choice valid is)
