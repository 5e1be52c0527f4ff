use Rattle.crew_terms.specs.Leaf.{earned, worth_of}
use Rattle.dossier_laws.proofs.Duality.{no_leaf_beats}
use Rattle.dossier_laws.proofs.causes.no_leaf_beats_a_choice.Goals as goal

pub returns : goal.returns
returns c = λ n prices worths phi choice leaf is.
    no_leaf_beats n prices worths phi choice leaf is (λ k below route legal. c.worth_bounds_routes.ensures n k (earned prices k) (phi k) (worth_of worths k) route (leaf.valid k below) legal)
