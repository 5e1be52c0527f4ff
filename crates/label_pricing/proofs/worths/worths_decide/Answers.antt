use Rattle.crew_terms.specs.Leaf.{earned}
use Rattle.label_pricing.proofs.Deciding.{decided}
use Rattle.label_pricing.proofs.worths.worths_decide.Goals as goal

pub returns : goal.returns
returns c n p worths l instance range priced are =
    let some = c.prices_have_potentials.ensures n p instance range priced in
    let valid = decided n p worths some.0 some.1 some.2 (λ k below. some.3 k below) (λ k phi worth route. c.worth_bounds_routes.ensures n k (earned p k) phi worth route) are in
    c.attained_worths_decide.ensures n p worths some.1 l valid (λ k below. let at = (are.each k below).attained in (at.0, at.1, at.2))
